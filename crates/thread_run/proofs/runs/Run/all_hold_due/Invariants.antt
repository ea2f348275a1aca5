use Rattle.std.proofs.Common.{◌≡◌, ℕ, ◌<◌, Some, true}
use Rattle.std.specs.Prelude.{slice_get}
use Rattle.thread_run.specs.Steps.{holds_by}
use Rattle.thread_run.specs.Workers.{Working}
use Rattle.thread_run.proofs.runs.Run.all_hold_due.Given as goal

abbrev pub invariant-loop-worker : goal.invariant-loop-worker
invariant-loop-worker g l = (at : ℕ) (w : Working g.row.S.Denot) → at < l.worker-index → slice_get l.self.workers.items at ≡ Some w
    → holds_by l.plan.faulty l.self.due w ≡ true
