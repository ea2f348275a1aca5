use Rattle.std.proofs.Common.{◌∙◌, ap}
use Rattle.audit_core.specs.Finding.{finding_of}
use Rattle.node_core.specs.Rows.{Check}
use Rattle.themis_calls.proofs.auditing.examine.Goals as goal

pub returns-clause-found : goal.returns-clause-found
returns-clause-found g c =
    c.in_ok-finding.ensures
    ∙ ap (λ (check : Check). finding_of check c.args.trace.now.run) c.in_ok-checker.ensures
