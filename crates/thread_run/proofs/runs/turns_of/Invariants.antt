use Rattle.thread_run.specs.Steps.{AreCounted}
use Rattle.thread_run.proofs.runs.turns_of.Given as goal

abbrev pub invariant-loop-at : goal.invariant-loop-at
invariant-loop-at g l = AreCounted l.at l.turns l.workers
