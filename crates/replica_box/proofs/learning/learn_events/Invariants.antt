use Rattle.std.proofs.Common.{◌≡◌}
use Rattle.replica_box.proofs.learning.learn_events.Given as goal

-- the learner's answers stay
abbrev pub invariant-loop-event : goal.invariant-loop-event
invariant-loop-event g l = l.learner ≡ l.fn.learner
