use Rattle.std.proofs.Common.{◌≡◌, ◌+◌, drop}
use Rattle.replica_seat.specs.Feed.{count_by_now}
use Rattle.replica_seat.proofs.arrivals.count_by_now.Given as goal

abbrev pub invariant-loop-count : goal.invariant-loop-count
invariant-loop-count l = count_by_now l.turns l.left ≡ l.count + count_by_now l.turns (drop l.count l.left)
