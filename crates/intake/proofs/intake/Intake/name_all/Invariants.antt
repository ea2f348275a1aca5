use Rattle.std.proofs.Common.{List}
use Rattle.seq_base.specs.declared.tx.Tx.{Tx}
use Rattle.intake.specs.Naming.{AreCounted, AreLow, HasNamedBut}
use Rattle.intake.specs.Offered.{HasNamed}
use Rattle.intake.proofs.intake.Intake.name_all.Given as goal

abbrev pub invariant-loop-tx : goal.invariant-loop-tx
invariant-loop-tx l =
    HasNamed l.initial.self l.self
    × ((lists : List (List Tx)) → AreCounted lists l.counts.entries → HasNamedBut l.f lists l.tx-iterator l.initial.self l.self × AreLow lists l.tx-iterator)
