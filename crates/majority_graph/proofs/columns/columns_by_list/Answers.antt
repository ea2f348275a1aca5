use Rattle.majority_graph.proofs.RowEdges.{column_pushed}
use Rattle.majority_graph.proofs.columns.columns_by_list.Goals as goal

pub loop-list-preserved : goal.loop-list-preserved
loop-list-preserved c =
    rw c.in_ok-push.ensures.items
    (column_pushed c.args.ranked.now c.loop-list.list c.loop-list.columns.items c.in_ok-column_of.field-0 c.loop-list.invariant c.in_ok-column_of.ensures)
