use Rattle.std.proofs.Common.{◌≤◌, length}
use Rattle.intake.specs.Offered.{HasNamed}
use Rattle.intake.proofs.exceptions.except_all.Given as goal

abbrev pub invariant-loop-tx : goal.invariant-loop-tx
invariant-loop-tx g l = HasNamed l.initial.desk l.desk × (length l.given.items ≤ l.room)
