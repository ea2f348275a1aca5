use Rattle.chain_state.proofs.Steps.{proposals-vertices}
use Rattle.chain_state.proofs.laws.blocks_propose_by_themselves.Goals as goal

pub returns : goal.returns
returns c = proposals-vertices
