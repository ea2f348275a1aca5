use Rattle.std.proofs.Common.{◌≡◌, ◌<◌, ◌≤◌, ℕ, length, get_or, map}
use Rattle.majority_graph.specs.declared.edge.Edge.TheVariants.{Missing}
use Rattle.majority_graph.specs.Ranks.{column_edge}
use Rattle.majority_graph.proofs.columns.edges_from.Given as goal

abbrev pub invariant-loop-at : goal.invariant-loop-at
invariant-loop-at l = record {
  done : (v : ℕ) → l.from ≤ v → v < l.at → get_or l.edges v Missing ≡ column_edge l.threshold (map (λ column. column.items) l.columns) l.from v;
  from : l.from ≤ l.at;
  long : length l.edges ≡ length l.fn.edges;
}
