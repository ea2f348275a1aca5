use Rattle.std.proofs.Common.{◌≡◌, ◌≤◌, ◌+◌, ◌||◌, take}
use Rattle.std.specs.HashSet.{spare}
use Rattle.std.specs.List.{list_any}
use Rattle.seq_base.specs.declared.tx.Tx.{Tx}
use Rattle.seq_base.specs.Lists.{holds}
use Rattle.seq_base.specs.Tx.{tx_eq}
use Rattle.session_rules.proofs.cut.insert_all.Given as goal

abbrev pub invariant-loop-tx : goal.invariant-loop-tx
invariant-loop-tx l = record {
  inserted : (tx : Tx) → list_any (tx_eq tx) l.set.keys ≡ (list_any (tx_eq tx) l.initial.set.keys || holds tx (take l.tx-index l.txs));
  room : spare l.initial.set ≤ spare l.set + l.tx-index;
}
