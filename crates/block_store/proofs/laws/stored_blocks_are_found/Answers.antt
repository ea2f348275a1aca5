use Rattle.block_store.proofs.ParentSteps.{is_found}
use Rattle.block_store.proofs.laws.stored_blocks_are_found.Goals as goal

pub returns : goal.returns
returns c = is_found
