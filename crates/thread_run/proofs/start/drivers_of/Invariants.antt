use Rattle.std.proofs.Common.{◌≡◌, ◌+◌, ◌≤◌, ◌++◌, length}
use Rattle.thread_run.specs.Starting.{drivers_from}
use Rattle.thread_run.proofs.start.drivers_of.Given as goal

abbrev pub invariant-left : goal.invariant-left
invariant-left l = record {
  drivers : l.drivers.items ++ drivers_from l.arrivals l.at l.mains.items ≡ drivers_from l.arrivals 0 l.fn.mains.items;
  few : l.at + length l.mains.items ≤ 16;
}

abbrev pub decreases-left : goal.decreases-left
decreases-left l = length l.mains.items
