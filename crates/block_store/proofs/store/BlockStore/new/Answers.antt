use Rattle.block_store.proofs.Kept.{nothing-kept}
use Rattle.block_store.proofs.store.BlockStore.new.Goals as goal

pub invariant_of-result : goal.invariant_of-result
invariant_of-result c = rw (c.new.ensures.empty) nothing-kept
