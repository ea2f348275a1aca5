use Rattle.std.proofs.Common.{◌≡◌, map, take}
use Rattle.replica_seat.proofs.record.arrivals_of.Given as goal

abbrev pub invariant-loop-seat : goal.invariant-loop-seat
invariant-loop-seat g l = l.lists.items ≡ map (λ seat. seat.feed.txs) (take l.seat-index l.seats)
