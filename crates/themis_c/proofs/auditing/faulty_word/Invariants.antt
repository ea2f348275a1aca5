use Rattle.std.proofs.Common.{◌≡◌}
use Rattle.themis_c.specs.Audits.{bits_below}
use Rattle.themis_c.proofs.auditing.faulty_word.Given as goal

abbrev pub invariant-loop-replica : goal.invariant-loop-replica
invariant-loop-replica l = l.word ≡ bits_below l.faulty l.replica
