use Rattle.block_store.proofs.ParentSteps.{stays}
use Rattle.block_store.proofs.laws.stored_blocks_stay.Goals as goal

pub returns : goal.returns
returns c = stays
