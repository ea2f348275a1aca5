use Rattle.std.proofs.Common.{ℕ, false, drop, get_or, sym, ap, ◌∙◌}
use Rattle.wire_view.proofs.Slots.{free_is_new}
use Rattle.wire_view.proofs.txs.TxsView.stands_from.Goals as goal

pub returns-else-taken-slot_of : goal.returns-else-taken-slot_of
returns-else-taken-slot_of c =
    let free = ap (λ (k : ℕ). get_or c.args.taken.now k false) (sym c.slot_of.ensures) ∙ c.if-taken-slot_of.false in
    c.if-taken-slot_of.false ∙ sym (free_is_new c.args.taken.now c.args.tx.now (drop c.args.start c.args.self.now) c.requires free)
