use Rattle.std.proofs.Common.{◌≡◌, length, map, take}
use Rattle.locked_log.specs.History.{given, giving}
use Rattle.thread_run.proofs.ListUpdates.{changed}
use Rattle.thread_run.proofs.start.passes_for.Given as goal

abbrev pub invariant-loop-k : goal.invariant-loop-k
invariant-loop-k l = record {
  mains : l.mains.items ≡ changed giving l.k l.fn.mains.items;
  passes : l.passes.items ≡ map given (take l.k l.fn.mains.items);
  count : l.count ≡ length l.logs;
  len : length l.fn.mains.items ≡ length l.logs;
}
