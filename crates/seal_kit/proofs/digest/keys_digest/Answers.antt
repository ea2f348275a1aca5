use Rattle.std.proofs.Common.{sym, subst}
use Rattle.sha2.specs.Hashers.{Holds256}
use Rattle.seal_kit.proofs.Concats.{concat_next}
use Rattle.seal_kit.proofs.digest.keys_digest.Goals as goal

pub loop-key-preserved : goal.loop-key-preserved
loop-key-preserved c =
    subst (Holds256 c.update.new.self) (sym (concat_next c.args.keys.now c.loop-key.key-index c.loop-key-test.true)) (c.update.ensures _ c.loop-key.invariant)
