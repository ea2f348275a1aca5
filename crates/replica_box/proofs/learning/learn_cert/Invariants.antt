use Rattle.std.proofs.Common.{◌≡◌}
use Rattle.replica_box.proofs.learning.learn_cert.Given as goal

-- the learner's answers stay
abbrev pub invariant-loop-k : goal.invariant-loop-k
invariant-loop-k g l = l.learner ≡ l.fn.learner
