use Rattle.std.proofs.Common.{◌≡◌, subst}
use Rattle.std.specs.Prelude.{IfOk}
use Rattle.audit_core.specs.Bringing.{carried_on}
use Rattle.audit_core.specs.Audited.{Audited, stored_of}
use Rattle.audit_core.proofs.audit.Auditor.brings.Goals as goal

pub returns-clause-carried : goal.returns-clause-carried
returns-clause-carried g c =
    subst (λ (j : Audited). IfOk c.carried_on.result (λ found. found ≡ carried_on (g.C.Checker.meaning c.args.checker.now) (stored_of j) c.args.entry.now))
    c.self.view_is c.carried_on.ensures.carried
