use Rattle.std.proofs.Common.{◌≡◌, take}
use Rattle.std.specs.List.{fold}
use Rattle.thread_run.specs.Steps.{floor_by}
use Rattle.thread_run.proofs.runs.floor_of.Given as goal

abbrev pub invariant-loop-worker : goal.invariant-loop-worker
invariant-loop-worker g l = l.floor ≡ fold (floor_by l.plan.faulty) 0 (take l.worker-index l.workers)
