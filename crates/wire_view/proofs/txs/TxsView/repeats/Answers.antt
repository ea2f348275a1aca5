use Rattle.std.proofs.Common.{ℕ, ◌-◌, true, set, drop, sym, subst, ◌∙◌, arith}
use Rattle.std.proofs.lemmas.List.{length-set}
use Rattle.wire_view.specs.Slots.{AreTaken}
use Rattle.wire_view.proofs.Slots.{twice, not_yet, taken_before}
use Rattle.wire_view.proofs.txs.TxsView.repeats.Goals as goal

pub returns-then-stands_from : goal.returns-then-stands_from
returns-then-stands_from c =
    sym (twice c.args.self.now c.loop-k.k c.at-tx.result (omega arith) c.at-tx.ensures (sym c.stands_from.ensures ∙ c.if-stands_from.true))

pub loop-k-preserved : goal.loop-k-preserved
loop-k-preserved c =
    let xs = c.args.self.now in
    let k = c.loop-k.k in
    let tx = c.at-tx.result in (
      not_yet xs k tx (omega arith) c.at-tx.ensures (sym c.stands_from.ensures ∙ c.if-stands_from.false) c.loop-k.invariant.0,
      subst (λ (at : ℕ). AreTaken (set c.loop-k.taken at true) (drop (k - 1) xs)) (sym c.slot_of.ensures)
          (taken_before c.loop-k.taken xs k tx (omega arith) c.at-tx.ensures (omega arith) c.loop-k.invariant.1),
      omega arith,
      length-set c.loop-k.taken c.slot_of.result true ∙ c.loop-k.invariant.3,
    )
