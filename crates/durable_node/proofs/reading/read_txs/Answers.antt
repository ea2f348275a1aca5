use Rattle.std.proofs.Common.{arith}
use Rattle.std.proofs.lemmas.List.{length-drop}
use Rattle.durable_node.proofs.Txs.{txs_step}
use Rattle.durable_node.proofs.reading.read_txs.Goals as goal

pub loop-left-preserved : goal.loop-left-preserved
loop-left-preserved c =
    let inv = c.loop-left.invariant in
    let step = txs_step c.loop-left.txs.items c.loop-left.left c.loop-left.rest.now _ c.loop-left-test.true inv.txs in
    record {
      txs = rw (c.in_ok-push.ensures.items, c.read_tx.ensures, c.split_at.ensures.back) step;
      size = rw c.split_at.ensures.back (omega (arith, inv.size, c.loop-left-test.true, length-drop 16 c.loop-left.rest.now));
    }
