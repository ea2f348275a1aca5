use Rattle.std.proofs.Common.{◌≡◌, drop, take}
use Rattle.audit_core.specs.Audited.{stored_of}
use Rattle.audit_core.specs.Judging.{are_drawn}
use Rattle.audit_core.proofs.audit.Auditor.draws.Given as goal

abbrev pub invariant-loop-statement : goal.invariant-loop-statement
invariant-loop-statement l =
    are_drawn (stored_of l.self) (take l.self.kept l.self.arrivals) (drop l.statement-index l.entry.turned.sealed)
    ≡ are_drawn (stored_of l.self) (take l.self.kept l.self.arrivals) l.entry.turned.sealed
