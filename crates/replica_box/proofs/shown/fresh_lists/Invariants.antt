use Rattle.std.proofs.Common.{◌≡◌, map, take}
use Rattle.replica_box.proofs.shown.fresh_lists.Given as goal

abbrev pub invariant-loop-k : goal.invariant-loop-k
invariant-loop-k l = (map (λ list. list.replica) l.lists.items ≡ map (λ order. order.order.replica) (take l.k l.block.orders))
    × (map (λ list. list.txs.items) l.lists.items ≡ map (λ order. order.order.fresh) (take l.k l.block.orders))
