use Rattle.std.proofs.Common.{◌≡◌, ◌+◌, length, drop, nat_lt}
use Rattle.std.specs.List.{filter}
use Rattle.node_core.proofs.state.above.count_above.Given as goal

abbrev pub invariant-loop-place : goal.invariant-loop-place
invariant-loop-place l = l.count + length (filter (λ b. nat_lt l.above b.view) (drop l.place l.store)) ≡ length (filter (λ b. nat_lt l.above b.view) l.store)
