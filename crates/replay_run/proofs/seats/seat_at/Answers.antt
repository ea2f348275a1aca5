use Rattle.std.proofs.Common.{get_or}
use Rattle.std.proofs.lemmas.Option.{slice_get-get_or}
use Rattle.replay_run.proofs.Amongs.{reseat_none, reseat_one}
use Rattle.replay_run.proofs.seats.seat_at.Goals as goal

pub returns-then-place-seats : goal.returns-then-place-seats
returns-then-place-seats g c = reseat_none c.args.seats.now c.args.at c.args.node c.if-place-seats.true

pub returns : goal.returns
returns g c =
    let seats = c.args.seats.now in
    reseat_one seats c.args.at (get_or seats c.args.at c.index-seats-place.result) c.go_on_with.new.self c.args.node
    (slice_get-get_or seats c.args.at c.index-seats-place.result c.if-place-seats.false) c.go_on_with.ensures
