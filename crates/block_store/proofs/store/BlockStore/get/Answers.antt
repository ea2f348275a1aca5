use Rattle.std.proofs.Common.{◌∙◌}
use Rattle.block_store.proofs.Kept.{lookup-kept}
use Rattle.block_store.proofs.store.BlockStore.get.Goals as goal

pub returns-clause-value : goal.returns-clause-value
returns-clause-value c =
    rw (← c.self.view_is) (c.get.ensures.value ∙ lookup-kept c.self.inside.blocks.entries c.args.block.now c.self.invariant.own)
