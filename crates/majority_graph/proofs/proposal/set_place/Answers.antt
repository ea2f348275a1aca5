use Rattle.std.proofs.Common.{length, arith, ap}
use Rattle.majority_graph.proofs.Rows.{row_at, set_row}
use Rattle.majority_graph.proofs.proposal.set_place.Goals as goal

pub index_mut-requires : goal.index_mut-requires
index_mut-requires c =
    let row = c.index_mut-row.result.now in
    let same = row_at c.args.rows.now.items c.args.u row c.requires.row c.index_mut-row.ensures.value in
    omega (arith, c.requires.column, ap length same, row.ok.0)

pub returns : goal.returns
returns c = set_row c.args.rows.now.items c.args.u c.args.v c.index_mut-row.result.now c.args.edge c.requires.row c.index_mut-row.ensures.value
