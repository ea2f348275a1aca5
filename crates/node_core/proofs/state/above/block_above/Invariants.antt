use Rattle.std.proofs.Common.{◌≡◌, drop, nat_lt, slice_get}
use Rattle.std.specs.List.{filter}
use Rattle.node_core.proofs.state.above.block_above.Given as goal

abbrev pub invariant-loop-place : goal.invariant-loop-place
invariant-loop-place l = slice_get (filter (λ b. nat_lt l.above b.view) (drop l.place l.store)) l.left
    ≡ slice_get (filter (λ b. nat_lt l.above b.view) l.store) l.at
