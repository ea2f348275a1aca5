use Rattle.node_core.specs.Rows.{Check}
use Rattle.replica_box.specs.SealCache.{AreGood}
use Rattle.replica_box.specs.Verified.{AreAllGood}
use Rattle.replica_box.proofs.verifier.add_all.Given as goal

-- each seal fits, whether it is added yet or not
abbrev pub invariant-loop : goal.invariant-loop
invariant-loop l = (fits : Check) → AreAllGood fits l.fn.kept.items → AreGood fits l.fn.recent → AreAllGood fits l.kept.items × AreGood fits l.recent
