use Rattle.std.proofs.Common.{◌≡◌, drop}
use Rattle.run_record.specs.Honest.{honest_items}
use Rattle.run_verdict.specs.First.{first_of}
use Rattle.run_verdict.specs.Delivered.{honest_in}
use Rattle.run_verdict.specs.Forged.{forged_in_journal, first_forged_of}
use Rattle.run_verdict.proofs.forgery.first_forged.Given as goal

abbrev pub invariant-loop-receiver : goal.invariant-loop-receiver
invariant-loop-receiver g l =
    first_of (forged_in_journal (g.C.Checker.meaning l.checker) l.run) (honest_items (honest_in l.run) l.receiver (drop l.receiver l.run.journals))
    ≡ first_forged_of (g.C.Checker.meaning l.checker) l.run
