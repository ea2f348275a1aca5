use Rattle.std.proofs.Common.{◌∙◌}
use Rattle.majority_graph.proofs.Places.{table_is}
use Rattle.majority_graph.proofs.RowEdges.{even_ranked}
use Rattle.majority_graph.proofs.weighing.edges_of.Goals as goal

pub rows_of-requires-clause-ascending : goal.rows_of-requires-clause-ascending
rows_of-requires-clause-ascending c = rw (c.deref.ensures.value, c.in_ok-ranked.ensures.txs) c.requires

pub rows_of-requires-clause-even : goal.rows_of-requires-clause-even
rows_of-requires-clause-even c = rw c.deref.ensures.value (even_ranked c.args.lists.now c.in_ok-ranked.ranked.items c.in_ok-ranked.ensures.ranked)

pub returns : goal.returns
returns c =
    let rows = rw (c.deref.ensures.value, c.threshold.ensures.value) at c.in_ok-rows.ensures in
    rows ∙ table_is c.args.setting.now c.args.lists.now c.args.vertices.now c.in_ok-ranked.ranked.items c.in_ok-ranked.ensures.ranked c.in_ok-ranked.ensures.txs
