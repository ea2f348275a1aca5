use Rattle.std.proofs.Common.{ℕ, ◌-◌, ◌≤◌, length}
use Rattle.std.specs.Prelude.{All}
use Rattle.seq_base.specs.Limits.{IsShort}
use Rattle.tests_chain.proofs.chains.fill.Given as goal

abbrev pub invariant-loop-alloc : goal.invariant-loop-alloc
invariant-loop-alloc l = record { few : length l.orders.items ≤ l.count; short : All (λ sealed. IsShort sealed.order) l.orders.items }

abbrev pub decreases-loop-alloc : goal.decreases-loop-alloc
decreases-loop-alloc l = l.count - length l.orders.items
