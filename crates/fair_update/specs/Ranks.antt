-- The waiting transactions of a graph, and how many of them come before each vertex.
use Rattle.std.specs.Prelude.{◌≡◌, ℕ, ◌<◌, List, length, count_by, filter, take, slice_index_or}
use Rattle.seq_base.specs.declared.tx.Tx.{Tx}
use Rattle.majority_graph.specs.Graph.{Graph}
use Rattle.fair_update.specs.Waiting.{waits}

-- the state after the first u vertices
pub record AreCounted (g : Graph) (u : ℕ) (txs : List Tx) (ranks : List ℕ) : Type 0 where
  pub txs_are : txs ≡ filter (waits g) (take u g.vertices)
  pub long : length ranks ≡ u
  pub each : (x : ℕ) → x < u → slice_index_or ranks x 0 ≡ count_by (waits g) (take x g.vertices)
