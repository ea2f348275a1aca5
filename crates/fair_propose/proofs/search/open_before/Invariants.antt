use Rattle.std.proofs.Common.{◌≡◌, ◌≤◌, ℕ, ◌<◌, length, get_or}
use Rattle.majority_graph.specs.Graph.{edge_at}
use Rattle.walks.specs.declared.mark.Mark.TheVariants.{Unseen}
use Rattle.walks.specs.Marks.{opened}
use Rattle.fair_propose.proofs.search.open_before.Given as goal

abbrev pub invariant-loop-from : goal.invariant-loop-from
invariant-loop-from l = record {
  done : (v : ℕ) → v < l.from → get_or l.marks v Unseen ≡ opened (edge_at l.ranking v l.at) (get_or l.fn.marks v Unseen);
  rest : (v : ℕ) → l.from ≤ v → get_or l.marks v Unseen ≡ get_or l.fn.marks v Unseen;
  same_length : length l.marks ≡ length l.ranking.vertices;
}
