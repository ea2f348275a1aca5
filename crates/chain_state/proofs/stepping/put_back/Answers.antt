use Rattle.std.proofs.Common.{◌≡◌, ◌<◌, [], ◌∷◌, ◌++◌, rules, length, map, set, ap, ◌∙◌, arith}
use Rattle.std.proofs.lemmas.List.{length-map, map-append, map-set}
use Rattle.chain_state.specs.Shown.{shown}
use Rattle.chain_state.specs.Stepping.{placed}
use Rattle.chain_state.proofs.PendingPlaces.{back_step, last_within}
use Rattle.chain_state.proofs.stepping.put_back.Goals as goal

pub bounds-proposals-place : goal.bounds-proposals-place
bounds-proposals-place c =
    let steps : map placed c.loop-place.stepped.items ≡ map placed c.pop.new.self.items ++ placed c.in-Some.field-0 ∷ [] =
    ap (map placed) c.in-Some.ensures.items ∙ map-append placed c.pop.new.self.items (c.in-Some.field-0 ∷ []) in
    omega (
      arith,
      last_within _ _ (placed c.in-Some.field-0) (map shown c.loop-place.proposals) steps c.loop-place.invariant.within,
      length-map c.loop-place.proposals shown,
    )

pub offset_bounds-proposals-place : goal.offset_bounds-proposals-place
offset_bounds-proposals-place c =
    let below : c.in-Some.field-0.place < length c.loop-place.proposals = bounds-proposals-place c in
    search rules

pub loop-place-preserved : goal.loop-place-preserved
loop-place-preserved c =
    let steps : map placed c.loop-place.stepped.items ≡ map placed c.pop.new.self.items ++ placed c.in-Some.field-0 ∷ [] =
    ap (map placed) c.in-Some.ensures.items ∙ map-append placed c.pop.new.self.items (c.in-Some.field-0 ∷ []) in
    let t = back_step (map placed c.pop.new.self.items) (map placed c.loop-place.stepped.items) (map placed c.args.stepped.items)
    (placed c.in-Some.field-0) (map shown c.loop-place.proposals)
    (map shown c.args.proposals.now) (map shown (set c.loop-place.proposals c.in-Some.field-0.place c.in-Some.field-0.standing)) steps
    (map-set shown c.loop-place.proposals c.in-Some.field-0.place c.in-Some.field-0.standing) c.loop-place.invariant.within c.loop-place.invariant.same in
    record { within = t.0; same = t.1 }
