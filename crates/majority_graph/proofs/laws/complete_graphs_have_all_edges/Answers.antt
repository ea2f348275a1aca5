use Rattle.majority_graph.proofs.EdgeLaws.{edge_in_complete}
use Rattle.majority_graph.proofs.laws.complete_graphs_have_all_edges.Goals as goal

pub returns : goal.returns
returns c = edge_in_complete
