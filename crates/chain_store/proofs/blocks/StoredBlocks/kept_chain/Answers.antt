use Rattle.std.proofs.Common.{◌≡◌, Some, find, sym, ap, ◌∙◌}
use Rattle.seq_base.specs.Blocks.{digest_eq}
use Rattle.chain_store.specs.Chains.{Stored, Kept, chain_state_of}
use Rattle.chain_store.proofs.ChainStates.{kept_is}
use Rattle.chain_store.proofs.blocks.StoredBlocks.kept_chain.Goals as goal

pub returns-in-Some : goal.returns-in-Some
returns-in-Some c =
    let inside = c.self.inside in
    let d = c.args.block.now in
    let found : find (λ (e : Kept). digest_eq e.block d) inside.kept.items ≡ Some c.in-Some.kept.now =
    sym (rw (c.in-Some.is, c.deref.ensures.value) at c.found.ensures) in
    ap (λ (k : Kept). k.chain) c.kept.view_is
    ∙ kept_is (record { setting = inside.setting; blocks = inside.store }) inside.kept.items d c.in-Some.kept.now c.self.invariant.1 found
    ∙ ap (λ (s : Stored). chain_state_of s d) c.self.view_is
