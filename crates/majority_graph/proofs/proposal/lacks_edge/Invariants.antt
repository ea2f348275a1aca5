use Rattle.std.proofs.Common.{◌≡◌, ◌≢◌, ◌<◌, ◌≤◌, ℕ, get_or, false}
use Rattle.majority_graph.specs.declared.edge.Edge.TheVariants.{Missing}
use Rattle.majority_graph.proofs.proposal.lacks_edge.Given as goal

abbrev pub invariant-loop-at : goal.invariant-loop-at
invariant-loop-at l = l.lacks ≡ false → (v : ℕ) → l.from ≤ v → v < l.at → get_or l.row v Missing ≢ Missing
