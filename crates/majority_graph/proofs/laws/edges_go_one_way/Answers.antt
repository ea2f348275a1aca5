use Rattle.majority_graph.proofs.EdgeLaws.{edge_opposite}
use Rattle.majority_graph.proofs.laws.edges_go_one_way.Goals as goal

pub returns : goal.returns
returns c = edge_opposite
