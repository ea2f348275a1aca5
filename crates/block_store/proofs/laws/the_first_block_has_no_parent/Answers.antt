use Rattle.block_store.proofs.ParentSteps.{first_has_none}
use Rattle.block_store.proofs.laws.the_first_block_has_no_parent.Goals as goal

pub returns : goal.returns
returns c = first_has_none
