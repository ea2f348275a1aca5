use Rattle.chain_state.proofs.Once.{new_is_unused}
use Rattle.chain_state.proofs.laws.proposals_are_new.Goals as goal

pub returns : goal.returns
returns c = new_is_unused
