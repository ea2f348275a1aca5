use Rattle.std.proofs.Common.{◌∙◌, ap, subst}
use Rattle.sha2.specs.Hashers.{Holds256}
use Rattle.lm_ots.specs.Chain.{head}
use Rattle.lm_ots.specs.Ots.{LeafKey, public_part}
use Rattle.lm_ots.proofs.EachChain.{bytes_none, bytes_more}
use Rattle.lm_ots.proofs.key.OtsKey.public.Goals as goal

pub loop-index-init : goal.loop-index-init
loop-index-init c =
    let key = c.args.self.now in
    let begins = ap (λ (k : LeafKey). head k.id k.leaf 0x8080) c.self.view_is in
    subst (Holds256 c.begun-hasher.result) (begins ∙ bytes_none (head key.id key.leaf 0x8080) (public_part key.id key.leaf key.seed)) c.begun-hasher.ensures

pub loop-index-preserved : goal.loop-index-preserved
loop-index-preserved c =
    let key = c.args.self.now in
    subst (Holds256 c.update.new.self)
    (bytes_more (head key.id key.leaf 0x8080) c.loop-index.index (public_part key.id key.leaf key.seed) _ c.chain_at-end.ensures)
    (c.update.ensures _ c.loop-index.invariant)
