use Rattle.std.proofs.Common.{◌≡◌, ◌++◌, ◌∷◌, length, take}
use Rattle.std.specs.List.{flat_map, AllByRecursion}
use Rattle.std.specs.Int.{w32, to_be_bytes}
use Rattle.seq_base.specs.Spelling.{tx_spelling}
use Rattle.seq_base.specs.Tx.{FitsTx}
use Rattle.durable_node.proofs.writing.arrived.Given as goal

abbrev pub invariant-loop-tx : goal.invariant-loop-tx
invariant-loop-tx l = record {
  text : l.out.items ≡ 1 ∷ (to_be_bytes w32 (length l.txs) ++ flat_map tx_spelling (take l.tx-index l.txs));
  fits : AllByRecursion FitsTx (take l.tx-index l.txs);
}
