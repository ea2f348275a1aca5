use Rattle.std.proofs.Common.{◌≡◌, ◌≢◌, ◌<◌, ℕ, length}
use Rattle.majority_graph.specs.Graph.{IsGraph, edge_at}
use Rattle.majority_graph.specs.declared.edge.Edge.TheVariants.{Missing}
use Rattle.fair_update.proofs.ranking.waits_at.Given as goal

abbrev pub invariant-loop-v : goal.invariant-loop-v
invariant-loop-v l = record {
  count : l.count ≡ length l.proposal.vertices;
  graph : IsGraph l.proposal;
  given : (y : ℕ) → y < l.v → l.u ≢ y → edge_at l.proposal l.u y ≢ Missing;
}
