use Rattle.std.proofs.Common.{◌∙◌}
use Rattle.audit_core.proofs.Whole.{ends_at}
use Rattle.audit_core.proofs.audit.Auditor.commit_view.Goals as goal

pub returns-clause-reported : goal.returns-clause-reported
returns-clause-reported c = λ by before audited. c.view_of_commit.ensures ∙ ends_at by before c.args.self.now audited
