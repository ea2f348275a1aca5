use Rattle.std.proofs.Common.{refl, arith}
use Rattle.seal_kit.proofs.Started.{one_started}
use Rattle.seal_kit.proofs.loose.LooseMakerSealMaker.make.Goals as goal

pub loop-replica-preserved : goal.loop-replica-preserved
loop-replica-preserved c =
    rw c.in_ok-push.ensures.items (one_started _ _ _ _ _ _ _ _ c.loop-replica.invariant refl (omega arith) refl refl)
