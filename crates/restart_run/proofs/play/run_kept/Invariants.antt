use Rattle.std.proofs.Common.{◌≡◌, ◌+◌, ◌-◌, ◌≤◌, ℕ}
use Rattle.replica_seat.specs.Seats.{meaning}
use Rattle.replay_run.specs.Kept.{meant}
use Rattle.replay_run.specs.Over.{left}
use Rattle.replay_run.specs.Play.{run_for, steps_of}
use Rattle.replay_run.specs.World.{world_of}
use Rattle.restart_run.specs.Counts.{starts_before}
use Rattle.restart_run.specs.Started.{AreStarted, ground}
use Rattle.restart_run.proofs.play.run_kept.Given as goal

abbrev pub invariant-loop-step : goal.invariant-loop-step
invariant-loop-step g l =
    let k = g.K.Keeper in
    let means = meaning g.M.S.Sealer.replica g.M.S.Sealer.gives in
    let fits = g.C.Checker.meaning l.checker in
    let ground = ground (meant k) means fits l.plan (g.M.SealMaker.gives l.maker) in
    record {
      world : run_for fits l.plan (world_of means l.network) (steps_of l.plan - l.step) ≡ run_for fits l.plan (world_of means l.fn.network) (steps_of l.plan);
      near : l.from ≤ l.network.turns + 1;
      left : left l.plan (world_of means l.network) + l.step ≤ l.plan.turns + l.plan.ticks;
      kept : (least : ℕ → ℕ) → AreStarted ground (starts_before l.plan.restarts 0) least l.fn.keepers l.fn.network
          → AreStarted ground (starts_before l.plan.restarts l.from) least l.keepers l.network;
    }
