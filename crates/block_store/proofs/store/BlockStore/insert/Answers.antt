use Rattle.block_store.proofs.Kept.{kept-added, blocks-added}
use Rattle.block_store.proofs.store.BlockStore.insert.Goals as goal

pub invariant_of-self-2 : goal.invariant_of-self-2
invariant_of-self-2 c =
    rw (c.in_ok-insert.ensures.entries)
    (kept-added c.self.inside.blocks.entries c.args.digest c.args.block c.self.invariant c.requires.within c.requires.own
    (rw c.self.view_is c.requires.parent) (rw c.self.view_is c.requires.alone))

pub returns-clause-ok : goal.returns-clause-ok
returns-clause-ok c =
    rw (c.in_ok-insert.ensures.entries, ← c.self.view_is)
    (blocks-added c.self.inside.blocks.entries c.args.digest c.args.block c.self.invariant c.requires.own (rw c.self.view_is c.requires.alone))
