use Rattle.chain_state.proofs.DrawnFit.{valid_more}
use Rattle.chain_state.proofs.laws.valid_chains_grow.Goals as goal

pub returns : goal.returns
returns c = valid_more
