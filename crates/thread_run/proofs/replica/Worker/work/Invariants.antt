use Rattle.replica_seat.specs.Seats.{meaning}
use Rattle.thread_run.specs.Workers.{Belongs}
use Rattle.thread_run.proofs.WorkDone.{SoFar}
use Rattle.thread_run.proofs.replica.Worker.work.Given as goal

abbrev pub invariant-loop-step : goal.invariant-loop-step
invariant-loop-step g l =
    SoFar (g.C.Checker.meaning l.checker) l.plan (meaning g.S.Sealer.replica g.S.Sealer.gives) l.fn.tick l.step l.fn.self l.self
    × Belongs l.world.logs.items l.world.boxes.items l.self
