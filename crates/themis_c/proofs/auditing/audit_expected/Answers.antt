use Rattle.themis_c.proofs.AuditAnswers.{reported, reported_known, reported_promise}
use Rattle.themis_c.proofs.auditing.audit_expected.Goals as goal

pub returns-clause-audited : goal.returns-clause-audited
returns-clause-audited c =
    let a = c.args in
    let answer = c.audit-answer in
    let report = c.report in
    let said = report.ensures in
    reported a.trace.now a.run.now a.publics.now a.finding.now answer.result report.result said.status report.new.finding said.place
    answer.ensures.found answer.ensures.cause answer.ensures.exact

pub returns-clause-promise : goal.returns-clause-promise
returns-clause-promise c =
    let a = c.args in
    let answer = c.audit-answer in
    let report = c.report in
    let said = report.ensures in
    reported_promise a.trace.now a.run.now a.publics.now a.finding.now answer.result report.result said.status report.new.finding said.place
    answer.ensures.promise

pub returns-clause-known : goal.returns-clause-known
returns-clause-known c =
    let a = c.args in
    reported_known a.trace.now a.run.now a.publics.now a.finding.now c.audit-answer.result c.report.result c.report.ensures.status
