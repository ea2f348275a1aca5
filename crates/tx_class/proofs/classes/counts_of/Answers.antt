use Rattle.std.proofs.Common.{◌∙◌, sym, arith}
use Rattle.std.proofs.lemmas.List.{map_more}
use Rattle.seq_base.specs.declared.tx.Tx.{Tx}
use Rattle.tx_class.specs.Sorted.{times}
use Rattle.tx_class.proofs.classes.counts_of.Goals as goal

pub loop-tx-preserved : goal.loop-tx-preserved
loop-tx-preserved c =
    let d : Tx = record { client = 0; number = 0; payload = 0 } in
    let more = map_more (λ t. times t c.args.entries.now) c.args.txs.now c.loop-tx.tx-index d (omega arith) in
    c.in_ok-push.ensures.items ∙ rw (c.times.ensures.value, c.loop-tx.invariant) (sym more)
