use Rattle.std.proofs.Common.{◌≡◌, length}
use Rattle.plan_text.specs.OrderReading.{are_distinct}
use Rattle.plan_text.proofs.order.is_distinct.Given as goal

abbrev pub invariant-loop-first : goal.invariant-loop-first
invariant-loop-first l = are_distinct l.txs ≡ are_distinct l.rest

abbrev pub decreases-loop-first : goal.decreases-loop-first
decreases-loop-first l = length l.rest
