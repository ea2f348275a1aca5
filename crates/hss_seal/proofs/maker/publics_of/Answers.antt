use Rattle.std.proofs.Common.{arith}
use Rattle.hss_seal.specs.Any.{any_public}
use Rattle.hss_seal.proofs.NewKeys.{one_public_more}
use Rattle.hss_seal.proofs.maker.publics_of.Goals as goal

pub loop-sealer-preserved : goal.loop-sealer-preserved
loop-sealer-preserved c =
    one_public_more any_public c.args.sealers.now c.loop-sealer.sealer-index c.sealer-item.result c.public.result c.loop-sealer.publics.items _
    c.in_ok-push.ensures.items c.loop-sealer.invariant c.public.ensures c.sealer-item.is (omega (arith, c.loop-sealer-test.true))
