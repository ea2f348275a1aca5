use Rattle.std.proofs.Common.{sym, ◌∙◌}
use Rattle.wire_view.proofs.Steps.{holds_at, or_found, or_goes_on}
use Rattle.wire_view.proofs.txs.TxsView.holds_from.Goals as goal

pub returns-then-eq : goal.returns-then-eq
returns-then-eq c = or_found _ _ _ (sym c.eq.ensures ∙ c.if-eq.true)
    (sym (holds_at c.args.tx.now c.args.self.now c.loop-k.k c.at.result c.at.ensures) ∙ c.loop-k.invariant)

pub loop-k-preserved : goal.loop-k-preserved
loop-k-preserved c = or_goes_on _ _ _ (sym c.eq.ensures ∙ c.if-eq.false)
    (sym (holds_at c.args.tx.now c.args.self.now c.loop-k.k c.at.result c.at.ensures) ∙ c.loop-k.invariant)
