use Rattle.std.proofs.Common.{◌∙◌, sym, arith}
use Rattle.std.proofs.lemmas.List.{map_more}
use Rattle.seq_base.specs.declared.tx.Tx.{Tx}
use Rattle.majority_graph.specs.Ranks.{place}
use Rattle.majority_graph.proofs.lookup.places_in.Goals as goal

pub loop-tx-preserved : goal.loop-tx-preserved
loop-tx-preserved c =
    let d : Tx = record { client = 0; number = 0; payload = 0 } in
    let more = map_more (λ t. place t c.args.list.now) c.args.txs.now c.loop-tx.tx-index d (omega arith) in
    c.in_ok-push.ensures.items ∙ rw (c.place_at.ensures, c.loop-tx.invariant) (sym more)
