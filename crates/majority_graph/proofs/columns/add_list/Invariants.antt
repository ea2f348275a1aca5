use Rattle.std.proofs.Common.{◌≡◌, ◌+◌, ◌<◌, ◌≤◌, ℕ, length, get_or, ltb}
use Rattle.std.specs.Int.{from_bool}
use Rattle.majority_graph.proofs.columns.add_list.Given as goal

abbrev pub invariant-loop-at : goal.invariant-loop-at
invariant-loop-at l = record {
  forward : (v : ℕ) → l.from ≤ v → v < l.at → get_or l.forward v 0 ≡ get_or l.fn.forward v 0 + from_bool (ltb (get_or l.column l.from 0) (get_or l.column v 0));
  backward : (v : ℕ) → l.from ≤ v → v < l.at
      → get_or l.backward v 0 ≡ get_or l.fn.backward v 0 + from_bool (ltb (get_or l.column v 0) (get_or l.column l.from 0));
  rest_forward : (v : ℕ) → l.at ≤ v → get_or l.forward v 0 ≡ get_or l.fn.forward v 0;
  rest_backward : (v : ℕ) → l.at ≤ v → get_or l.backward v 0 ≡ get_or l.fn.backward v 0;
  long_forward : length l.forward ≡ length l.column;
  long_backward : length l.backward ≡ length l.column;
  from : l.from ≤ l.at;
}
