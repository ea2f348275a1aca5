use Rattle.std.proofs.Common.{◌≡◌}
use Rattle.locked_log.specs.History.{IsPassOf}
use Rattle.tests_logs.proofs.crowd.submit_all.Given as goal

abbrev pub invariant-loop-number : goal.invariant-loop-number
invariant-loop-number g l = IsPassOf l.log l.pass × (l.pass.parts ≡ 1)
