use Rattle.block_store.proofs.ParentSteps.{chain_follows}
use Rattle.block_store.proofs.laws.chains_begin_at_the_first_block.Goals as goal

pub returns : goal.returns
returns c = λ store block is stored. chain_follows store is block stored
