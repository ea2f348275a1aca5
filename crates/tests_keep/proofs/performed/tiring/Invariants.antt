use Rattle.std.proofs.Common.{◌≡◌}
use Rattle.tests_keep.proofs.performed.tiring.Given as goal

abbrev pub invariant-loop-inner : goal.invariant-loop-inner
invariant-loop-inner l = l.tiring.items ≡ l.yielded
