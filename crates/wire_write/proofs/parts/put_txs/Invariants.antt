use Rattle.std.proofs.Common.{◌≡◌, ◌++◌, length, take}
use Rattle.std.specs.List.{flat_map}
use Rattle.std.specs.Int.{w16, to_be_bytes}
use Rattle.seq_base.specs.Spelling.{tx_spelling}
use Rattle.wire_write.proofs.parts.put_txs.Given as goal

abbrev pub invariant-loop-tx : goal.invariant-loop-tx
invariant-loop-tx l = l.out.items ≡ l.fn.out.items ++ (to_be_bytes w16 (length l.txs) ++ flat_map tx_spelling (take l.tx-index l.txs))
