use Rattle.std.proofs.Common.{◌≡◌, ◌≤◌, ℕ, length, get_or, take}
use Rattle.majority_graph.specs.declared.ranks.Ranked.{Ranked}
use Rattle.majority_graph.specs.Graph.{wanted_of}
use Rattle.majority_graph.proofs.ranking.gather.Given as goal

abbrev pub invariant-loop-at : goal.invariant-loop-at
invariant-loop-at l = record {
  prefix : take l.count l.ranked ≡ wanted_of (take l.at l.wanted) (take l.at l.fn.ranked);
  rest : (k : ℕ) (d : Ranked) → l.at ≤ k → get_or l.ranked k d ≡ get_or l.fn.ranked k d;
  few : l.count ≤ l.at;
  same_length : length l.ranked ≡ length l.fn.ranked;
}
