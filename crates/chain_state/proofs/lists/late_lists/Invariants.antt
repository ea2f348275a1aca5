use Rattle.std.proofs.Common.{◌≡◌, map, take}
use Rattle.chain_state.proofs.lists.late_lists.Given as goal

abbrev pub invariant-loop-order : goal.invariant-loop-order
invariant-loop-order l = l.lists.items ≡ map (λ sealed. sealed.order.late) (take l.order-index l.orders)
