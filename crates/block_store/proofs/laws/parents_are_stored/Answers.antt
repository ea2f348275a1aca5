use Rattle.block_store.proofs.ParentSteps.{parent_stored}
use Rattle.block_store.proofs.laws.parents_are_stored.Goals as goal

pub returns : goal.returns
returns c = λ store digest parent is parent_is. parent_stored store is digest parent parent_is
