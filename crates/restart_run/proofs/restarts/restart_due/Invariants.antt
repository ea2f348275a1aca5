use Rattle.std.proofs.Common.{◌≡◌, ℕ}
use Rattle.replica_seat.specs.Seats.{meaning}
use Rattle.replay_run.specs.Kept.{meant}
use Rattle.replay_run.specs.World.{world_of}
use Rattle.restart_run.specs.Counts.{starts_amid, starts_before}
use Rattle.restart_run.specs.Started.{AreStarted, ground}
use Rattle.restart_run.proofs.restarts.restart_due.Given as goal

abbrev pub invariant-loop-restart : goal.invariant-loop-restart
invariant-loop-restart g l =
    let k = g.K.Keeper in
    let means = meaning g.M.S.Sealer.replica g.M.S.Sealer.gives in
    let ground = ground (meant k) means (g.C.Checker.meaning l.checker) l.plan (g.M.SealMaker.gives l.maker) in
    record {
      turns : l.turns ≡ l.fn.network.turns;
      world : world_of means l.network ≡ world_of means l.fn.network;
      kept : (least : ℕ → ℕ) → AreStarted ground (starts_before l.plan.restarts l.from) least l.fn.keepers l.fn.network
          → AreStarted ground (starts_amid l.plan.restarts l.from l.turns l.restart-index) least l.keepers l.network;
    }
