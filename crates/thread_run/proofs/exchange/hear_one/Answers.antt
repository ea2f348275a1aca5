use Rattle.std.proofs.Common.{rules}
use Rattle.thread_run.proofs.LogNews.{held_of}
use Rattle.thread_run.proofs.exchange.hear_one.Goals as goal

pub returns-clause-holds : goal.returns-clause-holds
returns-clause-holds c = held_of _ _ c.args.k c.args.driver.now _ c.report.ensures.of (search rules) (c.report.ensures.reported c.args.driver.now)
