use Rattle.std.proofs.Common.{◌≡◌, ◌≤◌, ◌+◌, length, take}
use Rattle.indexmap.specs.IndexSet.{insert_all, spare}
use Rattle.seq_base.specs.Tx.{tx_eq}
use Rattle.intake.proofs.settle.add_all.Given as goal

abbrev pub invariant-loop-tx : goal.invariant-loop-tx
invariant-loop-tx l =
    (l.finals.keys ≡ insert_all tx_eq l.initial.finals.keys (take l.tx-index l.txs)) × (length l.txs ≤ spare l.finals + l.tx-index)
