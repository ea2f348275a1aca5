use Rattle.std.proofs.Common.{sym, ◌∙◌}
use Rattle.audit_core.proofs.StepAnswers.{first_rule, second_rule, rule_ok, next_ok, some_holds}
use Rattle.audit_core.proofs.audit.Auditor.audit_by_kept.Goals as goal

pub returns-then-not-knows-clause-rule : goal.returns-then-not-knows-clause-rule
returns-then-not-knows-clause-rule g c =
    first_rule (g.C.Checker.meaning c.args.checker.now) c.args.self.now c.args.entry.now (sym c.if-not-knows.true ∙ c.knows.ensures.test)

pub returns-in_default-clause-rule : goal.returns-in_default-clause-rule
returns-in_default-clause-rule g c =
    second_rule (g.C.Checker.meaning c.args.checker.now) c.args.self.now c.args.entry.now c.knows.new.self
    (sym c.if-not-knows.false ∙ c.knows.ensures.test) (c.knows.ensures.kept c.if-not-knows.false)
    (sym c.in_default.is ∙ c.in_ok-carried.ensures.found)

pub returns-clause-rule : goal.returns-clause-rule
returns-clause-rule g c =
    rule_ok (g.C.Checker.meaning c.args.checker.now) c.args.self.now c.args.entry.now c.knows.new.self
    (sym c.if-not-knows.false ∙ c.knows.ensures.test) (c.knows.ensures.kept c.if-not-knows.false)
    c.in-Some.carried (sym c.in-Some.is ∙ c.in_ok-carried.ensures.found) c.takes.new.self
    (some_holds _ c.in_ok-carried.field-0 c.in-Some.carried c.in-Some.is c.in_ok-carried.ensures.marks)
    c.audit_sealed.result c.audit_sealed.ensures.rule

pub returns-clause-next : goal.returns-clause-next
returns-clause-next g c =
    next_ok (g.C.Checker.meaning c.args.checker.now) c.args.self.now c.args.entry.now c.knows.new.self
    (sym c.if-not-knows.false ∙ c.knows.ensures.test) (c.knows.ensures.kept c.if-not-knows.false)
    c.in-Some.carried (sym c.in-Some.is ∙ c.in_ok-carried.ensures.found) c.takes.new.self
    (some_holds _ c.in_ok-carried.field-0 c.in-Some.carried c.in-Some.is c.in_ok-carried.ensures.marks)
    c.audit_sealed.result c.audit_sealed.new.self c.audit_sealed.ensures.next
