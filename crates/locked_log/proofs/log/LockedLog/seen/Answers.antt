use Rattle.std.proofs.Common.{rules}
use Rattle.locked_log.proofs.Keeps.{loads}
use Rattle.locked_log.proofs.log.LockedLog.seen.Goals as goal

pub load-requires : goal.load-requires
load-requires g c = (search rules, search rules, loads _ _ _ _ _ _)
