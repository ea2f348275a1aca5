use Rattle.std.proofs.Common.{◌≡◌, ◌++◌, take}
use Rattle.replica_seat.specs.Feed.{at_turn, round_of}
use Rattle.replica_seat.proofs.arrivals.add_round.Given as goal

abbrev pub invariant-loop-client : goal.invariant-loop-client
invariant-loop-client l = l.list.items ≡ l.initial.list.items ++ at_turn 0 (round_of (take l.client-index l.clients) l.round)
