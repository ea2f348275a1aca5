use Rattle.chain_state.proofs.Once.{final_of-distinct}
use Rattle.chain_state.proofs.laws.final_lists_hold_each_once.Goals as goal

pub returns : goal.returns
returns c = final_of-distinct
