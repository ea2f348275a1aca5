use Rattle.std.proofs.Common.{arith}
use Rattle.tests_threads.proofs.gate.meet.Goals as goal

pub threads-requires-clause-room : goal.threads-requires-clause-room
threads-requires-clause-room g c κs lifetimes =
    λ k d lt. (let is = c.in_ok-kit.ensures.room k d lt in let all = c.in_ok-plan.ensures.rules.seals_suffice in omega (arith, is, all))
