use Rattle.std.proofs.Common.{◌≡◌, drop}
use Rattle.std.specs.List.{enumerate_from}
use Rattle.run_verdict.specs.First.{first_of}
use Rattle.run_verdict.specs.Forged.{forged_in_entry, forged_in_journal}
use Rattle.run_verdict.proofs.forgery.Search.in_journal.Given as goal

abbrev pub invariant-loop-at : goal.invariant-loop-at
invariant-loop-at g l =
    first_of (forged_in_entry (g.C.Checker.meaning l.self.checker.now) l.self.run.now l.receiver) (enumerate_from l.at (drop l.at l.journal.entries))
    ≡ forged_in_journal (g.C.Checker.meaning l.self.checker.now) l.self.run.now (l.receiver, l.journal)
