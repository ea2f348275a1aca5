use Rattle.std.proofs.Common.{◌≡◌, ◌+◌, All, length, map}
use Rattle.thread_run.specs.Starting.{pass_with}
use Rattle.thread_run.proofs.start.open_logs.Given as goal

abbrev pub invariant-loop-at : goal.invariant-loop-at
invariant-loop-at l = record {
  count : length l.logs.items ≡ l.at;
  parts : All (λ log. log.parts ≡ l.fn.clients + 3) l.logs.items;
  own : l.own.items ≡ map (pass_with 1) l.logs.items;
  mains : l.mains.items ≡ map (pass_with (l.fn.clients + 2)) l.logs.items;
}
