use Rattle.std.proofs.Common.{◌≡◌, true, false, sym, subst, ◌∙◌}
use Rattle.journal_rules.specs.Sealed.{marks_in}
use Rattle.journal_rules.specs.Tests.{are_own}
use Rattle.audit_core.specs.Audited.{Audited}
use Rattle.audit_core.specs.Marking.{marked}
use Rattle.audit_core.proofs.StepAnswers.{not_idle, not_new, not_own, takes_as, takes_from, takes_with}
use Rattle.audit_core.proofs.audit.Auditor.takes.Goals as goal

pub returns-then-not-is_idle-clause-found : goal.returns-then-not-is_idle-clause-found
returns-then-not-is_idle-clause-found g c = not_idle (g.C.Checker.meaning c.args.checker.now) c.args.self.now c.args.entry.now (sym c.if-not-is_idle.ensures)

pub returns-then-not-seals_its_own-clause-found : goal.returns-then-not-seals_its_own-clause-found
returns-then-not-seals_its_own-clause-found g c =
    not_own (g.C.Checker.meaning c.args.checker.now) c.args.self.now c.args.entry.now (sym c.if-not-is_idle.ensures)
    (subst (λ (j : Audited). are_own j.replica c.args.entry.now.turned.sealed ≡ false) c.self.view_is (sym c.if-not-seals_its_own.ensures))

pub returns-then-not-branch-clause-found : goal.returns-then-not-branch-clause-found
returns-then-not-branch-clause-found g c =
    not_new (g.C.Checker.meaning c.args.checker.now) c.args.self.now c.args.entry.now (sym c.if-not-is_idle.ensures)
    (subst (λ (j : Audited). are_own j.replica c.args.entry.now.turned.sealed ≡ true) c.self.view_is (sym c.if-not-seals_its_own.ensures))
    (sym c.in_ok-marks_anew.ensures.test ∙ c.if-not-branch.true)

pub returns-clause-found : goal.returns-clause-found
returns-clause-found g c =
    takes_as (g.C.Checker.meaning c.args.checker.now) c.args.self.now c.marks_anew.new.self c.args.entry.now c.brings.result
    (sym c.if-not-is_idle.ensures)
    (subst (λ (j : Audited). are_own j.replica c.args.entry.now.turned.sealed ≡ true) c.self.view_is (sym c.if-not-seals_its_own.ensures))
    (sym c.in_ok-marks_anew.ensures.test ∙ c.if-not-branch.false)
    (c.in_ok-marks_anew.ensures.marks c.if-not-branch.false) c.brings.ensures.carried

pub returns-clause-taken : goal.returns-clause-taken
returns-clause-taken g c =
    takes_from c.args.self.now c.marks_anew.new.self (marked c.args.self.now.marks (marks_in c.args.entry.now.turned.sealed)) c.brings.result
    (c.in_ok-marks_anew.ensures.marks c.if-not-branch.false) c.brings.ensures.taken

pub returns-clause-marks : goal.returns-clause-marks
returns-clause-marks g c =
    takes_with (c.marks_anew.new.self ≡ record c.args.self.now { marks = marked c.args.self.now.marks (marks_in c.args.entry.now.turned.sealed) })
    c.brings.result (c.in_ok-marks_anew.ensures.marks c.if-not-branch.false)
