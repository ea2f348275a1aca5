use Rattle.std.proofs.Common.{◌∙◌, sym, arith}
use Rattle.std.specs.Prelude.{nat_le}
use Rattle.std.proofs.lemmas.List.{map_more}
use Rattle.seq_base.specs.declared.tx.Tx.{Tx}
use Rattle.seq_base.specs.Setting.{solid_of}
use Rattle.tx_class.specs.Tally.{count_in}
use Rattle.fair_propose.proofs.keeping.solid_among.Goals as goal

pub loop-tx-preserved : goal.loop-tx-preserved
loop-tx-preserved c =
    let d : Tx = record { client = 0; number = 0; payload = 0 } in
    let more = map_more (λ t. nat_le (solid_of c.args.setting.now) (count_in c.args.classes.now t)) c.args.txs.now c.loop-tx.tx-index d (omega arith) in
    c.in_ok-push.ensures.items ∙ rw (c.is_solid.ensures, c.loop-tx.invariant) (sym more)
