use Rattle.std.proofs.Common.{◌≡◌}
use Rattle.tests_calls.proofs.gate.held_all.Given as goal

abbrev pub invariant-loop-inner : goal.invariant-loop-inner
invariant-loop-inner l = l.held.items ≡ l.yielded
