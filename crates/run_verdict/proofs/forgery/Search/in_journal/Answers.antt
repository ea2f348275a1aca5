use Rattle.std.proofs.Common.{refl}
use Rattle.run_verdict.specs.Forged.{forged_in_journal}
use Rattle.run_verdict.proofs.forgery.Search.in_journal.Goals as goal

pub loop-at-init : goal.loop-at-init
unfolding forged_in_journal
loop-at-init g c = refl
