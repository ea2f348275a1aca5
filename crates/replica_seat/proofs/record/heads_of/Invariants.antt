use Rattle.std.proofs.Common.{◌≡◌, map, take}
use Rattle.replica_seat.specs.Seats.{meaning, replica_of}
use Rattle.replica_seat.specs.Showing.{head_of}
use Rattle.replica_seat.proofs.record.heads_of.Given as goal

abbrev pub invariant-loop-seat : goal.invariant-loop-seat
invariant-loop-seat g l = l.heads.items ≡ map (λ seat. head_of (replica_of (meaning g.S.Sealer.replica g.S.Sealer.gives) seat)) (take l.seat-index l.seats)
