use Rattle.std.proofs.Common.{◌≡◌, map, drop}
use Rattle.std.specs.List.{range_with_len}
use Rattle.thread_run.specs.Finishing.{column}
use Rattle.thread_run.specs.Starting.{rows_in}
use Rattle.thread_run.proofs.start.sends_of.Given as goal

abbrev pub invariant-loop-at : goal.invariant-loop-at
invariant-loop-at l = record {
  passes : rows_in l.passes.items ≡ map (drop l.at) (rows_in l.fn.passes.items);
  sends : rows_in l.sends.items ≡ map (λ k. column k (rows_in l.fn.passes.items)) (range_with_len 0 l.at);
}
