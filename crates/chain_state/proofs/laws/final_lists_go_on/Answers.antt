use Rattle.chain_state.proofs.Steps.{final_of-extends}
use Rattle.chain_state.proofs.laws.final_lists_go_on.Goals as goal

pub returns : goal.returns
returns c = final_of-extends
