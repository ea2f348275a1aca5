use Rattle.std.proofs.Common.{◌≡◌, subst}
use Rattle.std.specs.Prelude.{◌==◌, ◌||◌, IfOk, get_or, not, take}
use Rattle.audit_core.specs.Audited.{Audited, stored_of}
use Rattle.audit_core.specs.Judging.{drawn_on}
use Rattle.audit_core.proofs.audit.Auditor.may_seal.Goals as goal

pub returns : goal.returns
returns c =
    subst (λ (j : Audited). IfOk c.may_seal.result
    (λ may. may ≡ (not (get_or c.args.statement.now 0 0 == 3) || drawn_on (stored_of j) (take j.kept j.arrivals) c.args.statement.now)))
    c.self.view_is c.may_seal.ensures
