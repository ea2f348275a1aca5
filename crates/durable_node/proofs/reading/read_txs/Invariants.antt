use Rattle.std.proofs.Common.{◌≡◌, ◌*◌, ◌++◌, length}
use Rattle.wire_view.specs.Reading.{txs_in}
use Rattle.durable_node.proofs.reading.read_txs.Given as goal

abbrev pub invariant-loop-left : goal.invariant-loop-left
invariant-loop-left l = record {
  txs : l.txs.items ++ txs_in l.left l.rest ≡ txs_in l.count l.bytes;
  size : length l.rest ≡ 16 * l.left;
}

abbrev pub decreases-loop-left : goal.decreases-loop-left
decreases-loop-left l = l.left
