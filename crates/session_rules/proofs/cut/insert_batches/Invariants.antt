use Rattle.std.proofs.Common.{◌≡◌, ◌||◌, take}
use Rattle.std.specs.List.{list_any}
use Rattle.seq_base.specs.declared.tx.Tx.{Tx}
use Rattle.seq_base.specs.Tx.{tx_eq}
use Rattle.run_record.specs.Done.{is_finalised}
use Rattle.session_rules.proofs.cut.insert_batches.Given as goal

abbrev pub invariant-loop-batch : goal.invariant-loop-batch
invariant-loop-batch l =
    (tx : Tx) → list_any (tx_eq tx) l.set.keys ≡ (list_any (tx_eq tx) l.initial.set.keys || is_finalised (take l.batch-index l.batches) tx)
