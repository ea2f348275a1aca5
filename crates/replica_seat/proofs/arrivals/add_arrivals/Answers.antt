use Rattle.std.proofs.Common.{◌∙◌}
use Rattle.replica_seat.proofs.PlacedArrivals.{timed_more}
use Rattle.replica_seat.proofs.arrivals.add_arrivals.Goals as goal

pub loop-place-preserved : goal.loop-place-preserved
loop-place-preserved c =
    let more = timed_more c.args.arrivals.now (c.in-Some.field-0-0, c.in-Some.place) c.loop-place.places.keys c.pop_first.new.self.keys
    c.loop-place.list.items c.in-Some.ensures.removal in
    rw c.in_ok-add_arrival.ensures (more ∙ c.loop-place.invariant)
