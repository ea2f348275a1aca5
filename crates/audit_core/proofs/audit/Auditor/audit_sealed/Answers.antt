use Rattle.std.proofs.Common.{sym, ◌∙◌}
use Rattle.audit_core.proofs.StepAnswers.{third, fourth, fifth, no_rule, sealed_next}
use Rattle.audit_core.proofs.audit.Auditor.audit_sealed.Goals as goal

pub returns-then-not-branch-clause-rule : goal.returns-then-not-branch-clause-rule
returns-then-not-branch-clause-rule c = third c.args.self.now c.rises-rises.new.self c.take.new.self c.args.entry.now c.args.carried
    c.rises-rises.ensures.others c.in_ok-take.ensures (sym c.if-not-branch.true ∙ c.in_ok-draws.ensures)

pub returns-then-not-rises-clause-rule : goal.returns-then-not-rises-clause-rule
returns-then-not-rises-clause-rule c =
    fourth c.args.self.now c.rises-rises.new.self c.take.new.self c.args.entry.now c.args.carried c.rises-rises.ensures.others
    c.in_ok-take.ensures (sym c.if-not-branch.false ∙ c.in_ok-draws.ensures) (sym c.if-not-rises.true ∙ c.rises-rises.ensures.test)

pub returns-then-not-votes-clause-rule : goal.returns-then-not-votes-clause-rule
returns-then-not-votes-clause-rule c = fifth c.args.self.now c.rises-rises.new.self c.take.new.self
    c.args.entry.now c.args.carried c.rises-rises.ensures.others c.in_ok-take.ensures (sym c.if-not-branch.false ∙ c.in_ok-draws.ensures)
    (sym c.if-not-rises.false ∙ c.rises-rises.ensures.test) (sym c.if-not-votes.true ∙ c.votes-votes.ensures)

pub returns-clause-rule : goal.returns-clause-rule
returns-clause-rule c = no_rule c.args.self.now c.rises-rises.new.self c.take.new.self
    c.args.entry.now c.args.carried c.rises-rises.ensures.others c.in_ok-take.ensures (sym c.if-not-branch.false ∙ c.in_ok-draws.ensures)
    (sym c.if-not-rises.false ∙ c.rises-rises.ensures.test) (sym c.if-not-votes.false ∙ c.votes-votes.ensures)

pub returns-clause-next : goal.returns-clause-next
returns-clause-next c = sealed_next c.args.self.now c.rises-rises.new.self c.take.new.self c.args.entry.now c.args.carried
    c.rises-rises.ensures.others c.in_ok-take.ensures (c.rises-rises.ensures.voted c.if-not-rises.false)
