use Rattle.std.proofs.Common.{refl, arith}
use Rattle.seal_kit.proofs.Started.{one_started}
use Rattle.seal_kit.proofs.TagLengths.{tag_long}
use Rattle.seal_kit.proofs.tag.TagMakerSealMaker.make.Goals as goal

pub loop-replica-preserved : goal.loop-replica-preserved
loop-replica-preserved c =
    rw c.in_ok-push.ensures.items (one_started _ _ _ _ _ _ _ _ c.loop-replica.invariant refl (omega arith) refl refl)

pub returns-in_err-push-clause-short : goal.returns-in_err-push-clause-short
returns-in_err-push-clause-short c = λ replica number bytes below. omega (arith, tag_long replica bytes)

pub returns-clause-short : goal.returns-clause-short
returns-clause-short c = λ replica number bytes below. omega (arith, tag_long replica bytes)
