-- Lines along the edges of a graph.
use Rattle.std.specs.Prelude.{◌≡◌, ◌⊎◌, ℕ, ◌+◌, ◌<◌, ◌≤◌, List, length, Bool, true, Some, slice_get, slice_index, slice_index_or}
use Rattle.std.specs.List.{AllPairs}
use Rattle.seq_base.specs.declared.tx.Tx.{Tx}
use Rattle.seq_base.specs.Setting.{Parameters, threshold_of}
use Rattle.majority_graph.specs.Edges.{gives_edge}
use Rattle.majority_graph.specs.Graph.{Graph, HasEdge, edge_at}
use Rattle.majority_graph.specs.Weights.{weight}
use Rattle.batch_laws.specs.Reached.{is_to}

-- whether there is an edge from u to v
abbrev pub has_edge : Graph → ℕ → ℕ → Bool
has_edge g u v = is_to (edge_at g u v)

-- any two members have an edge, one way or the other
abbrev pub HaveEdges : Graph → List ℕ → Type 0
HaveEdges g members = AllPairs (λ u v. HasEdge g u v ⊎ HasEdge g v u) members

-- each entry has an edge to the next
abbrev pub IsPath : Graph → List ℕ → Type 0
IsPath g line = (k : ℕ) → k + 1 < length line → HasEdge g (slice_index line k) (slice_index line (k + 1))

-- the transaction of a vertex number
abbrev pub tx_at : List Tx → ℕ → Tx
tx_at vertices v = slice_index_or vertices v (record { client = 0; number = 0; payload = 0 })

-- Each entry has the edge of the lists to the next. It ranks above it in at least as many lists as decide a pair, and
-- in at least as many as it ranks below.
abbrev pub HaveMajorities : Parameters → List (List Tx) → List Tx → Type 0
HaveMajorities s lists line = (k : ℕ) (x y : Tx) → slice_get line k ≡ Some x → slice_get line (k + 1) ≡ Some y
    → (gives_edge s lists x y ≡ true) × (threshold_of s ≤ weight lists x y) × (weight lists y x ≤ weight lists x y)
