use Rattle.std.proofs.Common.{refl}
use Rattle.replica_seat.specs.Seats.{meaning}
use Rattle.replay_run.specs.Kept.{meant}
use Rattle.replay_run.proofs.LoggedEvents.{goes_after, taken_goes}
use Rattle.replay_run.proofs.network.Network.give_at.Goals as goal

pub returns-then-is_empty-clause-kept : goal.returns-then-is_empty-clause-kept
returns-then-is_empty-clause-kept g c =
    let k = g.K.Keeper in
    let m = meant k in
    let means = meaning g.S.Sealer.replica g.S.Sealer.gives in
    let fits = g.C.Checker.meaning c.args.checker.now in
    let plan = c.args.plan.now in
    taken_goes m means fits plan c.args.keepers.now c.args.self.now c.take_arrived.new.self c.args.at c.in_ok-list.ensures.taken

pub returns-clause-kept : goal.returns-clause-kept
returns-clause-kept g c =
    let k = g.K.Keeper in
    let m = meant k in
    let means = meaning g.S.Sealer.replica g.S.Sealer.gives in
    let fits = g.C.Checker.meaning c.args.checker.now in
    let plan = c.args.plan.now in
    goes_after m means fits plan c.args.keepers.now c.args.keepers.now c.turn_at.new.keepers c.args.self.now c.take_arrived.new.self
    c.turn_at.new.self c.turn_at.result
    (taken_goes m means fits plan c.args.keepers.now c.args.self.now c.take_arrived.new.self c.args.at c.in_ok-list.ensures.taken) c.turn_at.ensures.kept
