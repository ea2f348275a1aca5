use Rattle.chain_state.proofs.Meanings.{used_decides, waiting_decides, final_of-is}
use Rattle.chain_state.proofs.laws.chains_are_read.Goals as goal

pub returns : goal.returns
returns c = record { used = used_decides; waiting = waiting_decides; finals = final_of-is }
