use Rattle.audit_core.proofs.Whole.{finals_reported}
use Rattle.audit_core.proofs.audit.Auditor.has_finals.Goals as goal

pub returns-clause-reported : goal.returns-clause-reported
returns-clause-reported c = λ by before audited. finals_reported by before c.args.self.now audited
    c.a_state_stands_for_its_chain.ensures.step c.args.batches.now c.are_finals.result c.are_finals.ensures
