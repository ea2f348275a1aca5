use Rattle.block_store.proofs.ParentSteps.{extends_iff}
use Rattle.block_store.proofs.laws.extending_is_by_parent_steps.Goals as goal

pub returns : goal.returns
returns c = λ store child ancestor is stored. extends_iff store is child ancestor stored
