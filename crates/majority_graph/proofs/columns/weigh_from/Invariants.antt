use Rattle.std.proofs.Common.{◌≡◌, ◌<◌, ◌≤◌, ℕ, length, get_or, map, take}
use Rattle.majority_graph.specs.Ranks.{columns_ahead}
use Rattle.majority_graph.proofs.columns.weigh_from.Given as goal

abbrev pub invariant-loop-column : goal.invariant-loop-column
invariant-loop-column l = record {
  forward : (v : ℕ) → l.from ≤ v → v < length l.fn.forward
      → get_or l.forward v 0 ≡ columns_ahead (map (λ column. column.items) (take l.column-index l.columns)) l.from v;
  backward : (v : ℕ) → l.from ≤ v → v < length l.fn.forward
      → get_or l.backward v 0 ≡ columns_ahead (map (λ column. column.items) (take l.column-index l.columns)) v l.from;
  long_forward : length l.forward ≡ length l.fn.forward;
  long_backward : length l.backward ≡ length l.fn.forward;
}
