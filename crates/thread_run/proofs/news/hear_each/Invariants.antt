use Rattle.std.proofs.Common.{◌≡◌, take}
use Rattle.thread_run.specs.News.{informed}
use Rattle.thread_run.proofs.news.hear_each.Given as goal

abbrev pub invariant-loop-k : goal.invariant-loop-k
invariant-loop-k g l = (l.senders ≡ l.fn.senders) × (l.receiver ≡ informed (take l.k l.fn.senders) l.fn.receiver)
