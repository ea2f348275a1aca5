use Rattle.std.proofs.Common.{◌≡◌, map, ap, sym, ◌∙◌}
use Rattle.std.proofs.lemmas.Result.{IfOk-weaker}
use Rattle.replica_seat.specs.Seats.{meaning, replica_of}
use Rattle.replay_run.specs.World.{world_of}
use Rattle.replay_run.proofs.network.Network.take_arrived.Goals as goal

pub returns-clause-arrived : goal.returns-clause-arrived
returns-clause-arrived g c =
    let m = meaning g.S.Sealer.replica g.S.Sealer.gives in
    let seats : c.self.inside.seats.items ≡ c.args.self.now.seats = ap (λ n. n.seats) c.self.view_is in
    let turns : c.self.inside.turns ≡ c.args.self.now.turns = ap (λ n. n.turns) c.self.view_is in
    let same = ap (map (replica_of m)) (sym seats ∙ sym c.as_mut_slice.ensures.value) in
    IfOk-weaker c.take_at.result _ _ (λ list h. h (world_of m c.args.self.now) same (sym turns)) c.take_at.ensures.arrived
