use Rattle.std.proofs.Common.{◌≡◌, take}
use Rattle.replica_seat.specs.Feed.{txs_of}
use Rattle.replica_seat.proofs.arrivals.txs_of.Given as goal

abbrev pub invariant-loop-timed : goal.invariant-loop-timed
invariant-loop-timed l = l.txs.items ≡ txs_of (take l.timed-index l.list)
