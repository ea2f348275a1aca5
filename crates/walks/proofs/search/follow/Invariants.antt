use Rattle.std.proofs.Common.{◌≡◌, ◌≤◌, ℕ, ◌<◌, length, get_or}
use Rattle.majority_graph.specs.Graph.{edge_at}
use Rattle.walks.specs.declared.mark.Mark.TheVariants.{Unseen}
use Rattle.walks.specs.Marks.{opened}
use Rattle.walks.proofs.search.follow.Given as goal

abbrev pub invariant-loop-to : goal.invariant-loop-to
invariant-loop-to l = record {
  done : (v : ℕ) → v < l.to → get_or l.marks v Unseen ≡ opened (edge_at l.graph l.at v) (get_or l.fn.marks v Unseen);
  rest : (v : ℕ) → l.to ≤ v → get_or l.marks v Unseen ≡ get_or l.fn.marks v Unseen;
  same_length : length l.marks ≡ length l.graph.vertices;
}
