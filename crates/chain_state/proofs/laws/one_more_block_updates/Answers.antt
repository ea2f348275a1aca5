use Rattle.chain_state.proofs.Steps.{proposals-more, used_in-more}
use Rattle.chain_state.proofs.laws.one_more_block_updates.Goals as goal

pub returns : goal.returns
returns c = record { proposals = proposals-more; used = used_in-more }
