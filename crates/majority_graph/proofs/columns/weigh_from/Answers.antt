use Rattle.std.proofs.Common.{◌≡◌, ◌∙◌, length, ap, sym, arith}
use Rattle.majority_graph.proofs.RowEdges.{column_long, weight_more}
use Rattle.majority_graph.proofs.columns.weigh_from.Goals as goal
use Rattle.majority_graph.proofs.columns.weigh_from.Goals.{After-deref}

long : (c : After-deref) → length c.deref.result.now ≡ length c.args.forward.now
long c =
    ap length c.deref.ensures.value
    ∙ column_long c.args.columns.now (length c.args.forward.now) c.loop-column.column-index c.column-item.result c.requires.columns
    (omega arith) c.column-item.is

pub add_list-requires-clause-forward : goal.add_list-requires-clause-forward
add_list-requires-clause-forward c = c.loop-column.invariant.long_forward ∙ sym (long (goal.at.add_list-requires-clause-forward c).After-deref)

pub add_list-requires-clause-backward : goal.add_list-requires-clause-backward
add_list-requires-clause-backward c = c.loop-column.invariant.long_backward ∙ sym (long (goal.at.add_list-requires-clause-backward c).After-deref)

pub add_list-requires-clause-inside : goal.add_list-requires-clause-inside
add_list-requires-clause-inside c = omega (arith, c.requires.inside, long (goal.at.add_list-requires-clause-inside c).After-deref)

pub loop-column-preserved : goal.loop-column-preserved
loop-column-preserved c =
    let columns = c.args.columns.now in
    let at = c.loop-column.column-index in
    let from = c.args.from in
    let column = c.column-item.result in
    let room = long (goal.at.loop-column-preserved c).After-deref in
    record {
      forward = λ v low inside.
          weight_more columns at from v column _ _ (omega arith) c.column-item.is (c.loop-column.invariant.forward v low inside)
          (rw c.deref.ensures.value at (c.add_list.ensures.forward v low (omega (arith, inside, room))));
      backward = λ v low inside.
          weight_more columns at v from column _ _ (omega arith) c.column-item.is (c.loop-column.invariant.backward v low inside)
          (rw c.deref.ensures.value at (c.add_list.ensures.backward v low (omega (arith, inside, room))));
      long_forward = c.add_list.auto.forward ∙ c.loop-column.invariant.long_forward;
      long_backward = c.add_list.auto.backward ∙ c.loop-column.invariant.long_backward;
    }
