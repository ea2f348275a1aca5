use Rattle.std.proofs.Common.{[], sym, subst}
use Rattle.audit_core.specs.Stands.{HasAudited}
use Rattle.audit_core.proofs.Whole.{begins}
use Rattle.audit_core.proofs.audit.Auditor.new.Goals as goal

pub returns-clause-audited : goal.returns-clause-audited
returns-clause-audited c = λ by setting own arrivals.
    subst (HasAudited by []) (sym c.start.ensures) (begins by c.args.setting c.args.replica c.args.arrivals.now setting own arrivals)
