use Rattle.std.proofs.Common.{◌≡◌, ◌≤◌, ◌+◌, ◌||◌, take}
use Rattle.std.specs.HashSet.{spare}
use Rattle.seq_base.specs.declared.tx.Tx.{Tx}
use Rattle.seq_base.specs.Lists.{holds}
use Rattle.chain_state.specs.Keeping.{is_among}
use Rattle.chain_state.proofs.sets.insert_all.Given as goal

abbrev pub invariant-loop-tx : goal.invariant-loop-tx
invariant-loop-tx l = record {
  inserted : (t : Tx) → is_among l.set.keys t ≡ (is_among l.initial.set.keys t || holds t (take l.tx-index l.txs));
  room : spare l.initial.set ≤ spare l.set + l.tx-index;
}
