use Rattle.std.proofs.Common.{◌≡◌, replicate}
use Rattle.intake.proofs.desk.Desk.new.Given as goal

abbrev pub invariant-loop : goal.invariant-loop
invariant-loop l = l.clocks.items ≡ replicate l.counter 0
