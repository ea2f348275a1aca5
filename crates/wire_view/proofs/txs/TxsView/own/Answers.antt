use Rattle.std.proofs.Common.{sym, ◌∙◌, ap, List, ◌∷◌, [], ◌++◌}
use Rattle.seq_base.specs.declared.tx.Tx.{Tx}
use Rattle.wire_view.proofs.Steps.{take_get}
use Rattle.wire_view.proofs.txs.TxsView.own.Goals as goal

pub loop-k-preserved : goal.loop-k-preserved
loop-k-preserved c = c.in_ok-push.ensures.items ∙ ap (λ (y : List Tx). y ++ c.at.result ∷ []) c.loop-k.invariant
    ∙ sym (take_get c.args.self.now c.loop-k.k c.at.result c.at.ensures)
