use Rattle.std.proofs.Common.{◌≡◌, Some, length, refl, arith}
use Rattle.std.specs.Prelude.{slice_get}
use Rattle.std.proofs.lemmas.Option.{slice_get_read}
use Rattle.replica_seat.proofs.PlacedArrivals.{placed_with, same_with}
use Rattle.replica_seat.proofs.arrivals.places_of.Goals as goal

pub loop-place-preserved : goal.loop-place-preserved
loop-place-preserved c =
    let arrivals = c.args.arrivals.now in
    let a = c.index-arrivals-place.result in
    let here : slice_get arrivals c.loop-place.place ≡ Some a =
    slice_get_read arrivals (length arrivals) c.loop-place.place a refl (omega arith) c.index-arrivals-place.is in
    rw c.in_ok-put_place.ensures (record {
      placed = placed_with arrivals c.loop-place.places.keys a c.args.replica c.loop-place.place here c.loop-place.invariant.placed;
      same = same_with arrivals c.loop-place.places.keys a c.args.replica c.loop-place.place here c.loop-place.invariant.placed c.loop-place.invariant.same;
    })
