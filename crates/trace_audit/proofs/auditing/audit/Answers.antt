use Rattle.std.proofs.Common.{arith}
use Rattle.trace_audit.proofs.Answers.{all_bytes, exact, promise}
use Rattle.trace_audit.proofs.auditing.audit.Goals as goal

pub returns-clause-exact : goal.returns-clause-exact
returns-clause-exact c =
    let a = c.args in
    let audited = c.audit_expected in
    exact a.bytes.now a.run.now a.publics.now audited.result audited.ensures.found audited.ensures.cause

pub returns-clause-promise : goal.returns-clause-promise
returns-clause-promise c =
    let a = c.args in
    let each = all_bytes a.bytes.now (λ i. omega (arith, c.type_inv.bytes i)) in
    promise a.bytes.now a.run.now a.publics.now (λ audited. c.passing_traces_are_ordered.ensures a.bytes.now a.run.now a.publics.now audited each)
    c.audit_expected.result c.audit_expected.ensures.found
