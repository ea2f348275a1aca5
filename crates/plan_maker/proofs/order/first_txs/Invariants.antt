use Rattle.std.proofs.Common.{◌≡◌, map}
use Rattle.std.specs.List.{range_with_len}
use Rattle.plan_maker.specs.Order.{made_tx}
use Rattle.plan_maker.proofs.order.first_txs.Given as goal

abbrev pub invariant-loop-k : goal.invariant-loop-k
invariant-loop-k l = l.txs.items ≡ map made_tx (range_with_len 0 l.k)
