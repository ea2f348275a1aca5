use Rattle.std.proofs.Common.{rules}
use Rattle.locked_log.proofs.Keeps.{joins, compares}
use Rattle.locked_log.proofs.log.LockedLog.join.Goals as goal

pub join_seat-requires : goal.join_seat-requires
join_seat-requires g c =
    (search rules, search rules, c.other.invariant.0, search rules, joins _ _ _ _ _ _ c.pass.invariant.1.0 c.pass.invariant.1.1 c.other.invariant.1.0)

pub load-requires : goal.load-requires
load-requires g c = (search rules, search rules, compares _ _ _ _ _ _)
