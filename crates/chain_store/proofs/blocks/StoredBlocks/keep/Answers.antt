use Rattle.chain_store.proofs.blocks.StoredBlocks.keep.Goals as goal

pub invariant_of-self : goal.invariant_of-self
invariant_of-self c =
    let inside = c.self.inside in (
      c.self.invariant.0,
      c.keep_among.ensures.of (record { setting = inside.setting; blocks = inside.store })
          (rw c.self.view_is (record { stored = c.requires.stored; same = c.requires.same })) c.self.invariant.1,
      c.keep_among.ensures.room c.self.invariant.2,
    )
