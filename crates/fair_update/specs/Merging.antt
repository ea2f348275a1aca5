-- A graph takes the edges that it is given for its missing pairs.
use Rattle.std.specs.Prelude.{◌≡◌, ◌≢◌, ℕ, ◌<◌, ◌≤◌, List, length, slice_get, slice_index_or}
use Rattle.seq_base.specs.declared.tx.Tx.{Tx}
use Rattle.majority_graph.specs.declared.edge.Edge.{Edge}
use Rattle.majority_graph.specs.declared.edge.Edge.TheVariants.{Missing}
use Rattle.majority_graph.specs.Graph.{Graph, edge_at}
use Rattle.majority_graph.specs.Later.{or_edge}

-- the position of a vertex among the waiting transactions is its rank
abbrev pub IsRanked : List Tx → List Tx → List ℕ → ℕ → Type 0
IsRanked vertices waiting ranks u = slice_get waiting (slice_index_or ranks u 0) ≡ slice_get vertices u

-- each vertex of a missing pair has its rank
pub record AreRanked (g : Graph) (waiting : List Tx) (ranks : List ℕ) : Type 0 where
  pub long : length ranks ≡ length g.vertices
  pub each : (u v : ℕ) → u < length g.vertices → v < length g.vertices → u ≢ v → edge_at g u v ≡ Missing → IsRanked g.vertices waiting ranks u

-- the edge that a graph has between the ranks of two vertices
abbrev pub edge_by_rank : Graph → List ℕ → ℕ → ℕ → Edge
edge_by_rank given ranks u v = edge_at given (slice_index_or ranks u 0) (slice_index_or ranks v 0)

-- each pair has its own edge, else that of the other graph
pub record IsMerged (old given : Graph) (ranks : List ℕ) (new : Graph) : Type 0 where
  pub vertices : new.vertices ≡ old.vertices
  pub pairs : (x y : ℕ) → x < y → y < length old.vertices → edge_at new x y ≡ or_edge (edge_at old x y) (edge_by_rank given ranks x y)

-- the state after the pairs with a number below u, and those of u with numbers below v
pub record IsMergedUpTo (old given : Graph) (ranks : List ℕ) (now : Graph) (u v : ℕ) : Type 0 where
  pub vertices : now.vertices ≡ old.vertices
  pub below : (x y : ℕ) → x < u → x < y → y < length old.vertices → edge_at now x y ≡ or_edge (edge_at old x y) (edge_by_rank given ranks x y)
  pub within : (y : ℕ) → u < y → y < v → edge_at now u y ≡ or_edge (edge_at old u y) (edge_by_rank given ranks u y)
  pub following : (y : ℕ) → v ≤ y → edge_at now u y ≡ edge_at old u y
  pub above : (x y : ℕ) → u < x → x < y → edge_at now x y ≡ edge_at old x y
