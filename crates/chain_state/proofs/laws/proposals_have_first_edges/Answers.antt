use Rattle.chain_state.proofs.Meanings.{proposals_are_graphs}
use Rattle.chain_state.proofs.Tables.{has_first_edges}
use Rattle.chain_state.proofs.laws.proposals_have_first_edges.Goals as goal

pub returns : goal.returns
returns c = record { graphs = proposals_are_graphs; edges = has_first_edges }
