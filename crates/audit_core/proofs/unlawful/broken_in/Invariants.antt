use Rattle.journal_rules.specs.Obeys.{scale_of}
use Rattle.audit_core.proofs.EachEntry.{AsFar}
use Rattle.audit_core.proofs.unlawful.broken_in.Given as goal

abbrev pub invariant-loop-at : goal.invariant-loop-at
invariant-loop-at g l = AsFar (scale_of (g.C.Checker.meaning l.checker) l.run l.replica) l.entries l.at l.audit
