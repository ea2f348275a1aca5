use Rattle.std.proofs.Common.{◌≡◌, ◌++◌, length}
use Rattle.replica_seat.specs.Feed.{timed}
use Rattle.replica_seat.specs.Places.{at_places}
use Rattle.replica_seat.proofs.arrivals.add_arrivals.Given as goal

abbrev pub invariant-loop-place : goal.invariant-loop-place
invariant-loop-place l = l.list.items ++ timed (at_places l.arrivals l.places.keys) ≡ l.initial.list.items ++ timed (at_places l.arrivals l.initial.places.keys)

abbrev pub decreases-loop-place : goal.decreases-loop-place
decreases-loop-place l = length l.places.keys
