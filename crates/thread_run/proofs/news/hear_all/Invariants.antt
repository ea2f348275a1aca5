use Rattle.std.proofs.Common.{◌≡◌}
use Rattle.thread_run.specs.News.{informed}
use Rattle.thread_run.proofs.ListUpdates.{changed}
use Rattle.thread_run.proofs.news.hear_all.Given as goal

abbrev pub invariant-loop-at : goal.invariant-loop-at
invariant-loop-at g l = l.workers ≡ changed (informed l.fn.workers) l.at l.fn.workers
