use Rattle.std.proofs.Common.{◌≡◌, suc, ◌+◌, ◌≤◌, drop, length, Bool, nat_lt, sym, ap, ◌∙◌, arith}
use Rattle.std.specs.List.{filter}
use Rattle.std.proofs.lemmas.List.Sums.{length-filter, count_by-le-length}
use Rattle.seq_base.specs.declared.block.Block.{Block}
use Rattle.node_core.proofs.Above.{passes, fails}
use Rattle.node_core.proofs.state.above.count_above.Goals as goal
use Rattle.node_core.proofs.state.above.count_above.Goals.{then-is_above, else-is_above}

pub overflow_add-count : goal.overflow_add-count
overflow_add-count c =
    let p : Block → Bool = λ b. nat_lt c.args.above b.view in
    let store = c.args.store.now in
    let place = c.loop-place.place in
    let more : length (filter p (drop place store)) ≡ suc (length (filter p (drop (place + 1) store))) =
    ap length (passes p store place (sym c.is_above.ensures ∙ c.if-is_above.true)).2 in
    let most : length (filter p store) ≤ length store = rw (length-filter p store) (count_by-le-length p store) in
    omega (arith, c.loop-place.invariant, more, most, c.len-place-end.ensures, c.len-place-end.type_inv)

pub loop-place-preserved : goal.loop-place-preserved
loop-place-preserved c =
    let p : Block → Bool = λ b. nat_lt c.args.above b.view in
    let store = c.args.store.now in
    let place = c.loop-place.place in
    elim c.if-is_above.branch [
      | then-is_above w ↦
          let more : length (filter p (drop place store)) ≡ suc (length (filter p (drop (place + 1) store))) =
          ap length (passes p store place (sym w.if-is_above.ensures)).2 in
          omega (arith, c.loop-place.invariant, more, w.count-is)
      | else-is_above w ↦
          let same : length (filter p (drop place store)) ≡ length (filter p (drop (place + 1) store)) =
          ap length (fails p store place (rw (← c.len-place-end.ensures) c.loop-place-test.true) (sym w.if-is_above.ensures)) in
          omega (arith, c.loop-place.invariant, same, w.count-is)
    ]
