use Rattle.std.proofs.Common.{◌≡◌, ◌-◌}
use Rattle.std.specs.List.{range_with_len}
use Rattle.replica_seat.specs.Seats.{meaning}
use Rattle.replay_run.specs.World.{world_of}
use Rattle.replay_run.specs.Step.{floor_over}
use Rattle.replay_run.proofs.network.Network.floor.Given as goal

abbrev pub invariant-loop-at : goal.invariant-loop-at
invariant-loop-at g l =
    let w = world_of (meaning g.S.Sealer.replica g.S.Sealer.gives) l.self in
    floor_over l.plan w l.floor (range_with_len l.at (l.n - l.at)) ≡ floor_over l.plan w 0 (range_with_len 0 l.n)
