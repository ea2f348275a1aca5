use Rattle.std.proofs.Common.{◌≡◌, length}
use Rattle.majority_graph.specs.Ranks.{AreRows}
use Rattle.majority_graph.proofs.weighing.rows_by_columns.Given as goal

abbrev pub invariant-loop-at : goal.invariant-loop-at
invariant-loop-at l = record {
  rows : AreRows l.threshold l.ranked l.at l.rows.items;
  forward : length l.forward ≡ length l.ranked;
  backward : length l.backward ≡ length l.ranked;
  edges : length l.edges ≡ length l.ranked;
}
