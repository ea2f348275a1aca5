use Rattle.std.proofs.Common.{◌≡◌, ◌++◌, take}
use Rattle.replica_seat.specs.Feed.{at_turn}
use Rattle.replica_seat.proofs.arrivals.add_timed.Given as goal

abbrev pub invariant-loop-tx : goal.invariant-loop-tx
invariant-loop-tx l = l.list.items ≡ l.initial.list.items ++ at_turn l.turn (take l.tx-index l.txs)
