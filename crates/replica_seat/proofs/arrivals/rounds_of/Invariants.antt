use Rattle.std.proofs.Common.{◌≡◌, take}
use Rattle.replica_seat.specs.Feed.{rounds_of}
use Rattle.replica_seat.proofs.arrivals.rounds_of.Given as goal

abbrev pub invariant-loop-client : goal.invariant-loop-client
invariant-loop-client l = l.most ≡ rounds_of (take l.client-index l.clients)
