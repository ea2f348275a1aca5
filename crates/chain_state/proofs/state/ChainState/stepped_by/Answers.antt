use Rattle.std.proofs.Common.{◌≡◌, ℕ, ◌<◌, List, [], ◌∷◌, ◌++◌, length, get_or, map, refl, sym, ap, ap₂, ◌∙◌, arith}
use Rattle.std.proofs.lemmas.List.{get_or-map, length-map, map-append, map_more, take_all}
use Rattle.seq_base.specs.Setting.{Parameters}
use Rattle.chain_state.specs.Places.{steps_from}
use Rattle.chain_state.specs.Shown.{shown}
use Rattle.chain_state.specs.Standings.{Stage, Standings, next_stage}
use Rattle.chain_state.specs.Standings.Stage.{Closed}
use Rattle.chain_state.specs.Stepping.{placed}
use Rattle.chain_state.proofs.PendingPlaces.{place_within, steps_read}
use Rattle.chain_state.proofs.state.ChainState.stepped_by.Goals as goal

pub index-requires : goal.index-requires
index-requires c =
    omega (
      arith,
      place_within (map shown c.self.inside.proposals.items) c.deref-place-items.result.now c.loop-place.place-index
          (c.deref-place-items.ensures.value ∙ c.self.invariant.pending_are) c.loop-place-test.true,
      length-map c.self.inside.proposals.items shown,
    )

pub loop-place-preserved : goal.loop-place-preserved
loop-place-preserved c =
    let stages : List Stage = map shown c.self.inside.proposals.items in
    let places : List ℕ = c.deref-place-items.result.now in
    let i : ℕ = c.loop-place.place-index in
    let place : ℕ = get_or places i 0 in
    let below : place < length stages =
    place_within stages places i (c.deref-place-items.ensures.value ∙ c.self.invariant.pending_are) c.loop-place-test.true in
    let read : get_or stages place (Closed []) ≡ shown c.index.result.now =
    get_or-map shown c.self.inside.proposals.items place c.index.result.now
    (Closed []) (omega (arith, below, length-map c.self.inside.proposals.items shown))
    ∙ ap shown (sym c.index.ensures) in
    let stepped : shown c.in_ok-standing.standing ≡ next_stage c.args.self.now.setting c.args.late.now (get_or stages place (Closed [])) =
    c.in_ok-standing.ensures
    ∙ ap₂ (λ (s : Parameters) (stage : Stage). next_stage s c.args.late.now stage)
    (ap (λ (v : Standings). v.setting) c.self.view_is) (sym read) in
    ap (map placed) c.in_ok-push.ensures.items ∙ map-append placed c.loop-place.stepped.items (_ ∷ [])
    ∙ ap₂ (λ (steps : List (ℕ × Stage)) (stage : Stage). steps ++ (place, stage) ∷ []) c.loop-place.invariant stepped
    ∙ sym (map_more (λ (p : ℕ). (p, next_stage c.args.self.now.setting c.args.late.now (get_or stages p (Closed [])))) places i 0 c.loop-place-test.true)

pub returns : goal.returns
returns c =
    let stages : List Stage = map shown c.self.inside.proposals.items in
    let places : List ℕ = c.deref-place-items.result.now in
    let step : ℕ → ℕ × Stage = λ p. (p, next_stage c.args.self.now.setting c.args.late.now (get_or stages p (Closed []))) in
    c.loop-place.invariant
    ∙ ap (map step) (take_all c.loop-place.place-index places (omega (arith, c.loop-place-test.false)) ∙ c.deref-place-items.ensures.value
    ∙ c.self.invariant.pending_are)
    ∙ steps_read c.args.self.now.setting c.args.late.now (Closed []) [] stages 0 refl
    ∙ ap (λ (v : Standings). steps_from (next_stage c.args.self.now.setting c.args.late.now) 0 v.stages) c.self.view_is
