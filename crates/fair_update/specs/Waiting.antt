-- Transactions of a graph that wait for an edge.
use Rattle.std.specs.Prelude.{◌≡◌, ◌≢◌, ℕ, ◌<◌, List, length, Bool, true, false, ◌&&◌, not, Some, slice_get, zip, filter}
use Rattle.std.specs.List.{list_any}
use Rattle.seq_base.specs.declared.tx.Tx.{Tx}
use Rattle.seq_base.specs.Tx.{tx_eq}
use Rattle.majority_graph.specs.declared.edge.Edge.{Edge}
use Rattle.majority_graph.specs.declared.edge.Edge.TheVariants.{To, From, Missing}
use Rattle.majority_graph.specs.Graph.{Graph, edge_at}

-- t is the vertex of number u, and its pair with another vertex, that of number v, is missing
pub record IsMissingPair (g : Graph) (t : Tx) (u v : ℕ) : Type 0 where
  pub from : slice_get g.vertices u ≡ Some t
  pub to : v < length g.vertices
  pub apart : u ≢ v
  pub missing : edge_at g u v ≡ Missing

-- t belongs to a missing pair
abbrev pub Waits : Graph → Tx → Type 0
Waits g t = (u v : ℕ) × IsMissingPair g t u v

abbrev pub is_missing : Edge → Bool
is_missing To = false
is_missing From = false
is_missing Missing = true

-- whether one of u's edges to another vertex is missing
abbrev pub lacks : List Tx → Tx → List Edge → Bool
lacks vertices u row = list_any (λ entry. is_missing entry.1 && not (tx_eq entry.0 u)) (zip vertices row)

-- whether t belongs to a missing pair
abbrev pub waits : Graph → Tx → Bool
waits g t = list_any (λ entry. tx_eq entry.0 t && lacks g.vertices entry.0 entry.1) (zip g.vertices g.edges)

-- the vertices that do, in ascending order
abbrev pub waiting_of : Graph → List Tx
waiting_of g = filter (waits g) g.vertices

-- whether no vertex does
abbrev pub is_complete : Graph → Bool
is_complete g = not (list_any (waits g) g.vertices)
