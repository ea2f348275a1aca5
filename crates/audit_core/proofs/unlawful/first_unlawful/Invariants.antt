use Rattle.std.proofs.Common.{◌≡◌}
use Rattle.audit_core.specs.Unlawful.{first_unlawful_of}
use Rattle.audit_core.proofs.EachReplica.{reported_from}
use Rattle.audit_core.proofs.unlawful.first_unlawful.Given as goal

abbrev pub invariant-loop-replica : goal.invariant-loop-replica
invariant-loop-replica g l = first_unlawful_of (g.C.Checker.meaning l.checker) l.run ≡ reported_from (g.C.Checker.meaning l.checker) l.run l.replica
