use Rattle.std.proofs.Common.{◌≡◌, ◌+◌, ◌-◌, ◌<◌, List, drop, Bool, nat_lt, slice_get, Some, refl, sym, ap, ◌∙◌, arith}
use Rattle.std.specs.List.{filter}
use Rattle.seq_base.specs.declared.block.Block.{Block}
use Rattle.node_core.proofs.Above.{passes, fails, slice_next}
use Rattle.node_core.proofs.state.above.block_above.Goals as goal
use Rattle.node_core.proofs.state.above.block_above.Goals.{then-is_above+else-left-eq0, else-is_above}

pub returns-then-left-eq0 : goal.returns-then-left-eq0
returns-then-left-eq0 c =
    let p : Block → Bool = λ b. nat_lt c.args.above b.view in
    let store = c.args.store.now in
    let place = c.loop-place.place in
    let here = passes p store place (sym c.is_above.ensures ∙ c.if-is_above.true) in
    let first : slice_get (filter p (drop place store)) c.loop-place.left ≡ Some here.0 = rw (here.2, c.if-left-eq0.true) refl in
    c.at.ensures.value ∙ here.1 ∙ sym first ∙ c.loop-place.invariant

pub loop-place-preserved : goal.loop-place-preserved
loop-place-preserved c =
    let p : Block → Bool = λ b. nat_lt c.args.above b.view in
    let store = c.args.store.now in
    let place = c.loop-place.place in
    let left = c.loop-place.left in
    elim c.if-is_above.branch [
      | then-is_above+else-left-eq0 w ↦
          let here = passes p store place (sym w.if-is_above.ensures) in
          let some : 0 < left = omega (arith, w.if-left-eq0.false) in
          let next : slice_get (filter p (drop place store)) left ≡ slice_get (filter p (drop (place + 1) store)) (left - 1) =
          ap (λ (bs : List Block). slice_get bs left) here.2 ∙ slice_next here.0 (filter p (drop (place + 1) store)) left some in
          rw w.left-is (sym next ∙ c.loop-place.invariant)
      | else-is_above w ↦
          let same : filter p (drop place store) ≡ filter p (drop (place + 1) store) =
          fails p store place (rw (← c.len-place-end.ensures) c.loop-place-test.true) (sym w.if-is_above.ensures) in
          rw w.left-is (ap (λ (bs : List Block). slice_get bs left) (sym same) ∙ c.loop-place.invariant)
    ]
