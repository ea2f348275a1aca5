use Rattle.std.proofs.Common.{◌≡◌, ◌-◌}
use Rattle.replica_seat.specs.Seats.{meaning}
use Rattle.replay_run.specs.World.{world_of}
use Rattle.replay_run.specs.Play.{run_for, steps_of}
use Rattle.replay_run.proofs.runs.run.Given as goal

abbrev pub invariant-loop-step : goal.invariant-loop-step
invariant-loop-step g l =
    let fits = g.C.Checker.meaning l.checker in
    let m = meaning g.S.Sealer.replica g.S.Sealer.gives in
    run_for fits l.plan (world_of m l.network) (steps_of l.plan - l.step) ≡ run_for fits l.plan (world_of m l.fn.network) (steps_of l.plan)
