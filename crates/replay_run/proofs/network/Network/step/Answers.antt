use Rattle.std.proofs.Common.{map, ap}
use Rattle.replica_seat.specs.Seats.{meaning, replica_of}
use Rattle.replay_run.specs.Kept.{meant}
use Rattle.replay_run.specs.World.{Net}
use Rattle.replay_run.proofs.LoggedEvents.{goes_after, stays_both, stays_same}
use Rattle.replay_run.proofs.network.Network.step.Goals as goal

pub returns-clause-kept : goal.returns-clause-kept
returns-clause-kept g c =
    let k = g.K.Keeper in
    let m = meant k in
    let means = meaning g.S.Sealer.replica g.S.Sealer.gives in
    let fits = g.C.Checker.meaning c.args.checker.now in
    let plan = c.args.plan.now in
    let keepers = c.give_arrivals.new.keepers in
    let same = stays_same m means fits plan keepers c.give_arrivals.new.self c.all_hold_due.new.self
    (ap (λ (n : Net _). map (replica_of means) n.seats) c.in_ok-all_hold_due.ensures.same) in
    let given = stays_both m means fits plan c.args.keepers.now keepers keepers c.args.self.now c.give_arrivals.new.self
    c.all_hold_due.new.self c.in_ok-give_arrivals.ensures.kept same in
    goes_after m means fits plan c.args.keepers.now keepers c.advance.new.keepers c.args.self.now c.all_hold_due.new.self c.advance.new.self
    c.advance.result given c.advance.ensures.kept
