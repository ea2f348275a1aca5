use Rattle.std.proofs.Common.{rules, map, ap}
use Rattle.replica_seat.specs.Seats.{meaning, replica_of}
use Rattle.replay_run.specs.Kept.{meant}
use Rattle.replay_run.specs.World.{Net}
use Rattle.replay_run.proofs.LoggedEvents.{stays_both, stays_same, stop_after}
use Rattle.replay_run.proofs.network.Network.tick.Goals as goal

pub returns-in_err-tick_all-clause-kept : goal.returns-in_err-tick_all-clause-kept
returns-in_err-tick_all-clause-kept g c =
    let k = g.K.Keeper in
    let m = meant k in
    let means = meaning g.S.Sealer.replica g.S.Sealer.gives in
    let fits = g.C.Checker.meaning c.args.checker.now in
    let plan = c.args.plan.now in
    let same = stays_same m means fits plan c.args.keepers.now c.args.self.now _ (ap (λ (n : Net _). map (replica_of means) n.seats) c.self.view_is) in
    let stop = stop_after m means fits plan c.args.keepers.now c.args.keepers.now c.tick_all.new.keepers c.args.self.now
    _ c.in_err-tick_all.field-0.0 same c.in_err-tick_all.ensures.kept in
    search rules

pub returns-clause-kept : goal.returns-clause-kept
returns-clause-kept g c =
    let k = g.K.Keeper in
    let m = meant k in
    let means = meaning g.S.Sealer.replica g.S.Sealer.gives in
    let fits = g.C.Checker.meaning c.args.checker.now in
    let plan = c.args.plan.now in
    stays_both m means fits plan c.args.keepers.now c.args.keepers.now c.tick_all.new.keepers c.args.self.now _ c.tick_all.new.self
    (stays_same m means fits plan c.args.keepers.now c.args.self.now _ (ap (λ (n : Net _). map (replica_of means) n.seats) c.self.view_is))
    c.in_ok-tick_all.ensures.kept
