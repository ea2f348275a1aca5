use Rattle.std.proofs.Common.{arith}
use Rattle.majority_graph.proofs.Places.{columns_more}
use Rattle.majority_graph.proofs.ranks.columns_of.Goals as goal

pub loop-list-preserved : goal.loop-list-preserved
loop-list-preserved c =
    rw c.in_ok-push.ensures.items
    (columns_more c.args.lists.now c.args.txs.now c.loop-list.list-index c.list-item.result c.loop-list.columns.items c.in_ok-places_in.field-0
    (omega arith) c.list-item.is
    (rw c.as_slice.ensures at c.in_ok-places_in.ensures) c.loop-list.invariant)
