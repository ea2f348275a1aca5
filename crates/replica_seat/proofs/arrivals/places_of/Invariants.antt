use Rattle.std.proofs.Common.{◌≡◌, take, All}
use Rattle.replica_seat.specs.Feed.{arrivals_at}
use Rattle.replica_seat.specs.Places.{IsPlaced, at_places}
use Rattle.replica_seat.proofs.arrivals.places_of.Given as goal

abbrev pub invariant-loop-place : goal.invariant-loop-place
invariant-loop-place l = record {
  placed : All (IsPlaced l.arrivals l.place) l.places.keys;
  same : at_places l.arrivals l.places.keys ≡ arrivals_at (take l.place l.arrivals) l.replica;
}
