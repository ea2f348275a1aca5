use Rattle.std.proofs.Common.{◌≡◌, ◌+◌, ◌++◌, [], ◌∷◌, List, map, take, sym, ap, ◌∙◌, arith}
use Rattle.std.proofs.lemmas.List.{map_more, take_all}
use Rattle.chain_state.specs.declared.stepping.Stepped.{Stepped}
use Rattle.chain_state.specs.Places.{still_pending}
use Rattle.chain_state.specs.Shown.{shown}
use Rattle.chain_state.specs.Stepping.{placed}
use Rattle.chain_state.proofs.PendingPlaces.{still_more, still_same}
use Rattle.chain_state.proofs.stepping.pending_places.Goals as goal
use Rattle.chain_state.proofs.stepping.pending_places.Goals.{then-is_pending+in_ok-push, else-is_pending, then-is_pending-2+in_ok-push-2, else-is_pending-2}

pub loop-step-preserved : goal.loop-step-preserved
loop-step-preserved c =
    let xs = c.args.stepped.now in
    let i = c.loop-step.step-index in
    let x = c.step-item.result in
    let more : still_pending (map placed (take (i + 1) xs)) ≡ still_pending (map placed (take i xs) ++ placed x ∷ []) =
    ap still_pending (map_more placed xs i x (omega arith))
    ∙ ap (λ (s : Stepped). still_pending (map placed (take i xs) ++ placed s ∷ [])) (sym c.step-item.is) in
    elim c.if-is_pending.branch [
      | then-is_pending+in_ok-push w ↦
          rw (w.places-is, w.in_ok-push.ensures.items, c.loop-step.invariant)
          (sym (more ∙ still_more (map placed (take i xs)) x.place (shown x.standing) (sym w.if-is_pending.ensures)))
      | else-is_pending w ↦
          rw (w.places-is, c.loop-step.invariant) (sym (more ∙ still_same (map placed (take i xs)) x.place (shown x.standing) (sym w.if-is_pending.ensures)))
    ]

pub returns : goal.returns
returns c =
    let all : c.loop-step.places.items ≡ still_pending (map placed c.args.stepped.now) =
    c.loop-step.invariant
    ∙ ap (λ (xs : List Stepped). still_pending (map placed xs))
    (take_all c.loop-step.step-index c.args.stepped.now (omega (arith, c.loop-step-test.false))) in
    elim c.if-is_pending-2.branch [
      | then-is_pending-2+in_ok-push-2 w ↦
          rw (w.places-is, w.in_ok-push-2.ensures.items, all)
          (sym (still_more (map placed c.args.stepped.now) c.args.place (shown c.args.own.now) (sym w.if-is_pending-2.ensures)))
      | else-is_pending-2 w ↦
          rw (w.places-is, all) (sym (still_same (map placed c.args.stepped.now) c.args.place (shown c.args.own.now) (sym w.if-is_pending-2.ensures)))
    ]
