use Rattle.std.proofs.Common.{get_or, ◌∙◌}
use Rattle.std.proofs.lemmas.Option.{slice_get-get_or}
use Rattle.std.proofs.lemmas.Result.{IfOk-weaker, on_ok_weaker}
use Rattle.replica_seat.specs.Seats.{meaning}
use Rattle.replay_run.proofs.Amongs.{arrived_none, arrived_one, taken_none, taken_one, waits_still}
use Rattle.replay_run.proofs.seats.take_at.Goals as goal

pub returns-then-place-seats-clause-arrived : goal.returns-then-place-seats-clause-arrived
returns-then-place-seats-clause-arrived g c w same turns =
    c.of.ensures ∙ c.new.ensures.items ∙ arrived_none (meaning g.S.Sealer.replica g.S.Sealer.gives) c.args.seats.now c.args.at c.if-place-seats.true w same

pub returns-then-place-seats-clause-taken : goal.returns-then-place-seats-clause-taken
returns-then-place-seats-clause-taken g c w same turns =
    taken_none (meaning g.S.Sealer.replica g.S.Sealer.gives) c.args.seats.now c.args.at c.if-place-seats.true w same

pub returns-clause-arrived : goal.returns-clause-arrived
returns-clause-arrived g c =
    let seats = c.args.seats.now in
    let seat = get_or seats c.args.at c.index-seats-place.result in
    IfOk-weaker c.take_arrived.result _ _
    (λ list is w same turns. is ∙ arrived_one (meaning g.S.Sealer.replica g.S.Sealer.gives) seats c.args.at c.args.turns seat
    (slice_get-get_or seats c.args.at c.index-seats-place.result c.if-place-seats.false) w same turns)
    c.take_arrived.ensures.arrived

pub returns-clause-taken : goal.returns-clause-taken
returns-clause-taken g c =
    let seats = c.args.seats.now in
    let seat = get_or seats c.args.at c.index-seats-place.result in
    on_ok_weaker c.take_arrived.result
    (λ is. taken_one (meaning g.S.Sealer.replica g.S.Sealer.gives) seats c.args.at c.args.turns seat c.take_arrived.new.self
    (slice_get-get_or seats c.args.at c.index-seats-place.result c.if-place-seats.false) is)
    c.take_arrived.ensures.taken

pub returns-clause-waits : goal.returns-clause-waits
returns-clause-waits g c due k =
    let seats = c.args.seats.now in
    let seat = get_or seats c.args.at c.index-seats-place.result in
    waits_still due seats c.args.at k seat c.take_arrived.new.self
    (slice_get-get_or seats c.args.at c.index-seats-place.result c.if-place-seats.false) c.take_arrived.ensures.same
