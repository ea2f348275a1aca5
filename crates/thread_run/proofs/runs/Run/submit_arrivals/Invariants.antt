use Rattle.thread_run.proofs.Submissions.{SoManySubmit}
use Rattle.thread_run.proofs.runs.Run.submit_arrivals.Given as goal

abbrev pub invariant-loop-at : goal.invariant-loop-at
invariant-loop-at g l = SoManySubmit l.plan l.turns l.at l.fn.self l.self
