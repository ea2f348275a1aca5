use Rattle.chain_store.proofs.blocks.StoredBlocks.settle.Goals as goal

pub invariant_of-self : goal.invariant_of-self
invariant_of-self c = let inside = c.self.inside in (
  c.self.invariant.0,
  c.prune.ensures.of (record { setting = inside.setting; blocks = inside.store }) c.self.invariant.1,
  c.prune.ensures.room c.self.invariant.2,
)

pub invariant_of-self-else-is_none : goal.invariant_of-self-else-is_none
invariant_of-self-else-is_none c = let inside = c.self.inside in (
  c.self.invariant.0,
  c.prune.ensures.of (record { setting = inside.setting; blocks = inside.store }) c.self.invariant.1,
  c.prune.ensures.room c.self.invariant.2,
)

pub invariant_of-self-else-is_stored : goal.invariant_of-self-else-is_stored
invariant_of-self-else-is_stored c = let inside = c.self.inside in (
  c.self.invariant.0,
  c.prune.ensures.of (record { setting = inside.setting; blocks = inside.store }) c.self.invariant.1,
  c.prune.ensures.room c.self.invariant.2,
)
