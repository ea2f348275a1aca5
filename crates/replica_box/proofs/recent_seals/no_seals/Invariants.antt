use Rattle.node_core.specs.Rows.{Check}
use Rattle.replica_box.specs.SealCache.{AreGood}
use Rattle.replica_box.proofs.recent_seals.no_seals.Given as goal

-- no place has a seal that does not fit
abbrev pub invariant-loop : goal.invariant-loop
invariant-loop l = (fits : Check) → AreGood fits l.seals.items
