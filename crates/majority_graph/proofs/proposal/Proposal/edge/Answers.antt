use Rattle.std.proofs.Common.{◌<◌, length, arith, Vec, Global}
use Rattle.std.proofs.lemmas.List.{length-map}
use Rattle.majority_graph.specs.declared.edge.Edge.{Edge}
use Rattle.majority_graph.proofs.Rows.{row_length}
use Rattle.majority_graph.proofs.proposal.Proposal.edge.Goals as goal

pub index-requires : goal.index-requires
index-requires c =
    let inside = c.self.inside in
    let from = rw (← c.self.view_is) at c.requires.from in
    let to = rw (← c.self.view_is) at c.requires.to in
    let rows = length-map inside.edges.items (λ (row : Vec Edge Global). row.items) in
    let within : c.args.u < length inside.edges.items = omega (arith, from, rows, c.self.invariant.rows) in
    omega
    (arith, to, row_length inside.edges.items (length inside.vertices) c.args.u c.index-row.result.now c.self.invariant.columns within c.index-row.ensures)
