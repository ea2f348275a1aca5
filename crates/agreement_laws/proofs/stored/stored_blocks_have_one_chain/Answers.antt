use Rattle.agreement_laws.proofs.Later.{one_chain}
use Rattle.agreement_laws.proofs.stored.stored_blocks_have_one_chain.Goals as goal

pub returns : goal.returns
returns c = one_chain
