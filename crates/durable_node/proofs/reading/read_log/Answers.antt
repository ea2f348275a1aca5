use Rattle.std.proofs.Common.{refl}
use Rattle.durable_node.proofs.Scans.{good_unread}
use Rattle.durable_node.proofs.reading.read_log.Goals as goal

pub returns-in-Err-NoMemory-clause-good : goal.returns-in-Err-NoMemory-clause-good
returns-in-Err-NoMemory-clause-good c = good_unread c.args.start.now c.args.log.now c.why_unread.result _ refl c.why_unread.ensures.good
