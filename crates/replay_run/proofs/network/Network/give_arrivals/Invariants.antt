use Rattle.std.proofs.Common.{◌≡◌, ◌-◌}
use Rattle.std.specs.List.{range_with_len}
use Rattle.replica_seat.specs.Seats.{meaning}
use Rattle.replay_run.specs.Kept.{StaysKept, meant}
use Rattle.replay_run.specs.World.{world_of}
use Rattle.replay_run.specs.Step.{given_over}
use Rattle.replay_run.proofs.network.Network.give_arrivals.Given as goal

abbrev pub invariant-loop-at : goal.invariant-loop-at
invariant-loop-at g l =
    let fits = g.C.Checker.meaning l.checker in
    let means = meaning g.S.Sealer.replica g.S.Sealer.gives in
    let k = g.K.Keeper in
    record {
      world : given_over fits l.plan (world_of means l.self) (range_with_len l.at (l.n - l.at))
          ≡ given_over fits l.plan (world_of means l.fn.self) (range_with_len 0 l.n);
      kept : StaysKept (meant k) means fits l.plan l.fn.keepers l.fn.self l.keepers l.self;
    }
