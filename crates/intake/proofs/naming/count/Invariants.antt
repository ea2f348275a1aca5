use Rattle.std.proofs.Common.{List, ◌∷◌, [], ◌++◌, take}
use Rattle.seq_base.specs.declared.tx.Tx.{Tx}
use Rattle.intake.specs.Naming.{AreCounted}
use Rattle.intake.proofs.naming.count.Given as goal

abbrev pub invariant-loop-tx : goal.invariant-loop-tx
invariant-loop-tx l =
    (lists : List (List Tx)) → AreCounted lists l.initial.counts.entries → AreCounted (lists ++ take l.tx-index l.txs ∷ []) l.counts.entries
