use Rattle.std.proofs.Common.{◌≡◌}
use Rattle.intake.proofs.intake.Intake.lend_all.Given as goal

abbrev pub invariant-loop-at : goal.invariant-loop-at
invariant-loop-at g l = l.self ≡ l.initial.self
