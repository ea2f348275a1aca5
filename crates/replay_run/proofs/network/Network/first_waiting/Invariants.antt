use Rattle.std.proofs.Common.{◌≡◌, ◌-◌}
use Rattle.std.specs.List.{range_with_len}
use Rattle.replica_seat.specs.Seats.{meaning}
use Rattle.replay_run.specs.World.{world_of}
use Rattle.replay_run.specs.Step.{done_over}
use Rattle.replay_run.proofs.network.Network.first_waiting.Given as goal

abbrev pub invariant-loop-at : goal.invariant-loop-at
invariant-loop-at g l =
    let w = world_of (meaning g.S.Sealer.replica g.S.Sealer.gives) l.self in
    done_over l.plan w (range_with_len l.at (l.n - l.at)) ≡ done_over l.plan w (range_with_len 0 l.n)
