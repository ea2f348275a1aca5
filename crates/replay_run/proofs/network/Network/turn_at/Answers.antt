use Rattle.std.proofs.Common.{rules}
use Rattle.replica_seat.specs.Seats.{meaning}
use Rattle.replay_run.specs.Kept.{meant}
use Rattle.replay_run.proofs.LoggedEvents.{event_goes, event_stops}
use Rattle.replay_run.proofs.network.Network.turn_at.Goals as goal

pub returns-in_err-keep-clause-kept : goal.returns-in_err-keep-clause-kept
returns-in_err-keep-clause-kept g c =
    let k = g.K.Keeper in
    let stop = event_stops (meant k) (meaning g.S.Sealer.replica g.S.Sealer.gives) (g.C.Checker.meaning c.args.checker.now) c.args.plan.now
    c.args.keepers.now c.keep.new.self c.args.self.now c.args.at c.in_err-keep.field-0.0 c.in_err-keep.ensures.fault in
    let h = c.from_residual.ensures in
    search rules

pub returns-clause-kept : goal.returns-clause-kept
returns-clause-kept g c =
    let k = g.K.Keeper in
    event_goes (meant k) (meaning g.S.Sealer.replica g.S.Sealer.gives) (g.C.Checker.meaning c.args.checker.now) c.args.plan.now
    c.args.keepers.now c.keep.new.self c.args.self.now c.act_at.new.self c.args.at c.args.event c.in_ok-keep.ensures.kept c.in_ok-act_at.ensures
