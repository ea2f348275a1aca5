use Rattle.majority_graph.proofs.Solid.{solid_edge}
use Rattle.majority_graph.proofs.laws.solid_transactions_have_edges.Goals as goal

pub returns : goal.returns
returns c = λ s lists u v valid solid apart. solid_edge s lists u v (c.thresholds_are_low.ensures.at_most_half s valid) solid apart
