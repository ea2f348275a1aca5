use Rattle.std.proofs.Common.{◌≤◌, length}
use Rattle.intake.specs.Offered.{HasNamed}
use Rattle.intake.proofs.intake.Intake.exceptions.Given as goal

abbrev pub invariant-loop-at : goal.invariant-loop-at
invariant-loop-at g l = HasNamed l.initial.self l.self × (length l.given.items ≤ l.room)
