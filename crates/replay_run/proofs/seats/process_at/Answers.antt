use Rattle.std.proofs.Common.{get_or}
use Rattle.std.proofs.lemmas.Option.{slice_get-get_or}
use Rattle.std.proofs.lemmas.Result.{on_ok_weaker}
use Rattle.replica_seat.specs.Seats.{meaning}
use Rattle.replay_run.proofs.Amongs.{set_elsewhere, reported_none, reported_one}
use Rattle.replay_run.proofs.seats.process_at.Goals as goal

pub returns-then-place-seats-clause-reported : goal.returns-then-place-seats-clause-reported
returns-then-place-seats-clause-reported g c =
    reported_none (meaning g.S.Sealer.replica g.S.Sealer.gives) (g.C.Checker.meaning c.args.checker.now) c.args.plan.now
    c.args.seats.now c.args.at c.args.event c.args.queue.now.items c.if-place-seats.true

pub returns-clause-reported : goal.returns-clause-reported
returns-clause-reported g c =
    let seats = c.args.seats.now in
    let seat = get_or seats c.args.at c.index-seats-place.result in
    on_ok_weaker c.process.result
    (λ reported. reported_one (meaning g.S.Sealer.replica g.S.Sealer.gives) (g.C.Checker.meaning c.args.checker.now) c.args.plan.now
    seats c.args.at c.args.event seat c.process.new.self c.args.queue.now.items c.process.new.queue.items
    (slice_get-get_or seats c.args.at c.index-seats-place.result c.if-place-seats.false) reported)
    c.process.ensures

pub returns-clause-others : goal.returns-clause-others
returns-clause-others g c k other = set_elsewhere c.args.seats.now c.args.at k c.process.new.self other
