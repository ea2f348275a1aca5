use Rattle.std.proofs.Common.{sym, ◌∙◌, ap, subst, take, List, ◌∷◌, [], ◌++◌}
use Rattle.std.specs.Prelude.{All}
use Rattle.std.proofs.lemmas.List.Elements.{All-push}
use Rattle.seq_base.specs.declared.order.SealedOrder.{SealedOrder}
use Rattle.seq_base.specs.Limits.{IsShort}
use Rattle.wire_view.proofs.Steps.{take_get}
use Rattle.wire_view.proofs.orders.OrdersView.own.Goals as goal

pub loop-k-preserved : goal.loop-k-preserved
loop-k-preserved c = record {
  items =
      c.in_ok-push.ensures.items
      ∙ ap (λ (y : List SealedOrder). y ++ c.in_ok-order.order ∷ []) c.loop-k.invariant.items
      ∙ ap (λ (s : SealedOrder). take c.loop-k.k c.args.self.now ++ s ∷ []) c.in_ok-order.ensures.value
      ∙ sym (take_get c.args.self.now c.loop-k.k c.at.result c.at.ensures);
  short = subst (λ (y : List SealedOrder). All (λ s. IsShort s.order) y) (sym c.in_ok-push.ensures.items)
      (All-push (λ s. IsShort s.order) c.loop-k.orders.items c.in_ok-order.order c.loop-k.invariant.short c.in_ok-order.ensures.short);
}
