use Rattle.std.proofs.Common.{◌≡◌, map, take}
use Rattle.chain_state.proofs.lists.fresh_lists.Given as goal

abbrev pub invariant-loop-order : goal.invariant-loop-order
invariant-loop-order l = l.lists.items ≡ map (λ sealed. sealed.order.fresh) (take l.order-index l.orders)
