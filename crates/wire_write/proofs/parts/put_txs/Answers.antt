use Rattle.std.proofs.Common.{length}
use Rattle.std.specs.Int.{w16, to_be_bytes}
use Rattle.seq_base.specs.declared.tx.Tx.{Tx}
use Rattle.seq_base.specs.Spelling.{tx_spelling}
use Rattle.wire_write.proofs.Puts.{none_put, one_more_put}
use Rattle.wire_write.proofs.parts.put_txs.Goals as goal

pub loop-tx-init : goal.loop-tx-init
loop-tx-init c = none_put c.args.out.now.items (to_be_bytes w16 (length c.as_slice-txs.result.now)) c.put_u16_count.new.out.items c.in_ok-put_u16_count.ensures

pub loop-tx-preserved : goal.loop-tx-preserved
loop-tx-preserved c =
    let zero_tx : Tx = record { client = 0; number = 0; payload = 0 } in
    let txs = c.as_slice-txs.result.now in
    one_more_put tx_spelling c.args.out.now.items (to_be_bytes w16 (length txs)) c.loop-tx.out.items c.put_tx.new.out.items
    txs c.loop-tx.tx-index zero_tx c.loop-tx-test.true c.loop-tx.invariant c.in_ok-put_tx.ensures
