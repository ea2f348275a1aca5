use Rattle.chain_state.proofs.FirstEdges.{first_edge-stays}
use Rattle.chain_state.proofs.laws.given_edges_stay.Goals as goal

pub returns : goal.returns
returns c = first_edge-stays
