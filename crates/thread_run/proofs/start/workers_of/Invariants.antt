use Rattle.std.proofs.Common.{◌≡◌, ◌+◌, ◌≤◌, ◌++◌, length}
use Rattle.thread_run.specs.Starting.{rows_in, workers_from}
use Rattle.thread_run.proofs.start.workers_of.Given as goal

abbrev pub invariant-left : goal.invariant-left
invariant-left g l = record {
  workers : l.workers.items ++ workers_from l.at l.seats.items l.own.items l.takes.items (rows_in l.sends.items)
      ≡ workers_from 0 l.fn.seats.items l.fn.own.items l.fn.takes.items (rows_in l.fn.sends.items);
  few : l.at + length l.seats.items ≤ 16;
  own : length l.own.items ≡ length l.seats.items;
  takes : length l.takes.items ≡ length l.seats.items;
  sends : length l.sends.items ≡ length l.seats.items;
}

abbrev pub decreases-left : goal.decreases-left
decreases-left g l = length l.seats.items
