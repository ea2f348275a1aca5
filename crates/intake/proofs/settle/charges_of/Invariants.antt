use Rattle.intake.proofs.Charges.{Counting}
use Rattle.intake.proofs.settle.charges_of.Given as goal

abbrev pub invariant-loop-tx : goal.invariant-loop-tx
invariant-loop-tx l = Counting l.charges l._tx-iterator l.held.entries
