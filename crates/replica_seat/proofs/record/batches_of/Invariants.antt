use Rattle.std.proofs.Common.{◌≡◌, map, take}
use Rattle.replica_seat.specs.Seats.{meaning, replica_of}
use Rattle.replica_seat.specs.Showing.{batches_of}
use Rattle.replica_seat.proofs.record.batches_of.Given as goal

abbrev pub invariant-loop-seat : goal.invariant-loop-seat
invariant-loop-seat g l = l.batches.items ≡ map (λ seat. batches_of (replica_of (meaning g.S.Sealer.replica g.S.Sealer.gives) seat)) (take l.seat-index l.seats)
