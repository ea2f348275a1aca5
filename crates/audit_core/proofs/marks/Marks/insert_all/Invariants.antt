use Rattle.std.proofs.Common.{◌≡◌, drop}
use Rattle.journal_rules.specs.Sealed.{marks_in}
use Rattle.audit_core.specs.Marking.{are_new, marked}
use Rattle.audit_core.proofs.marks.Marks.insert_all.Given as goal

abbrev pub invariant-loop-statement : goal.invariant-loop-statement
invariant-loop-statement l =
    (are_new l.self (marks_in (drop l.statement-index l.statements)) ≡ are_new l.initial.self (marks_in l.statements))
    × (marked l.self (marks_in (drop l.statement-index l.statements)) ≡ marked l.initial.self (marks_in l.statements))
