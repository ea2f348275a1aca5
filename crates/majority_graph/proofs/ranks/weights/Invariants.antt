use Rattle.std.proofs.Common.{◌≡◌, ◌≤◌, take}
use Rattle.majority_graph.specs.Ranks.{ahead}
use Rattle.majority_graph.proofs.ranks.weights.Given as goal

abbrev pub invariant-loop-at : goal.invariant-loop-at
invariant-loop-at l = record {
  forward : l.forward ≡ ahead (take l.at l.one.places.items) (take l.at l.other.places.items);
  backward : l.backward ≡ ahead (take l.at l.other.places.items) (take l.at l.one.places.items);
  few_forward : l.forward ≤ l.at;
  few_backward : l.backward ≤ l.at;
}
