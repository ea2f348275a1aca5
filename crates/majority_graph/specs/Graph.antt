-- Proposals as graphs: transactions, and an edge or none for each pair of them.
use Rattle.std.specs.Prelude.{◌≡◌, ◌≢◌, ℕ, ◌<◌, ◌≤◌, List, [], ◌∷◌, length, map, Bool, true, false, slice_index_or, slice_set, All}
use Rattle.std.specs.List.Sorted.{IsStrictlySortedBy}
use Rattle.seq_base.specs.declared.tx.Tx.{Tx}
use Rattle.seq_base.specs.Tx.{tx_cmp}
use Rattle.seq_base.specs.Setting.{Parameters}
use Rattle.majority_graph.specs.declared.edge.Edge.{Edge}
use Rattle.majority_graph.specs.declared.edge.Edge.TheVariants.{To, Missing}
use Rattle.majority_graph.specs.Edges.{edge_between, opposite_of}

-- the vertices, numbered from 0, and for each vertex its row of edges to all vertices in turn
pub record Graph : Type 0 where
  pub vertices : List Tx
  pub edges : List (List Edge)

-- the edge of the pair of two vertices, seen from u
abbrev pub edge_at : Graph → ℕ → ℕ → Edge
edge_at g u v = slice_index_or (slice_index_or g.edges u []) v Missing

-- there is an edge from u to v
abbrev pub HasEdge : Graph → ℕ → ℕ → Type 0
HasEdge g u v = edge_at g u v ≡ To

-- the invariant of proposals
pub record IsGraph (g : Graph) : Type 0 where
  -- the vertices are strictly ascending, and at most 2,048
  pub ascending : IsStrictlySortedBy tx_cmp g.vertices
  pub few : length g.vertices ≤ 2048
  -- there is one entry for each ordered pair of vertices
  pub rows : length g.edges ≡ length g.vertices
  pub columns : All (λ row. length row ≡ length g.vertices) g.edges
  -- an edge never goes both ways
  pub one_way : (u v : ℕ) → u < length g.vertices → v < length g.vertices → edge_at g u v ≡ opposite_of (edge_at g v u)

-- no pair is missing
abbrev pub IsComplete : Graph → Type 0
IsComplete g = (u v : ℕ) → u < length g.vertices → v < length g.vertices → u ≢ v → edge_at g u v ≢ Missing

-- no pair is missing whose smaller number is below u
abbrev pub NoneMissingBelow : Graph → ℕ → Type 0
NoneMissingBelow g u = (x y : ℕ) → x < u → x < y → y < length g.vertices → edge_at g x y ≢ Missing

-- no pair of u and a greater number below v is missing
abbrev pub NoneMissingWithin : Graph → ℕ → ℕ → Type 0
NoneMissingWithin g u v = (y : ℕ) → u < y → y < v → edge_at g u y ≢ Missing

-- u and v are the least missing pair, by u and then v with u < v
pub record IsFirstMissing (g : Graph) (u v : ℕ) : Type 0 where
  pub ordered : u < v
  pub inside : v < length g.vertices
  pub missing : edge_at g u v ≡ Missing
  pub none_below : NoneMissingBelow g u
  pub none_within : NoneMissingWithin g u v

-- the graph of the edges that the lists give
abbrev pub graph_of : Parameters → List (List Tx) → List Tx → Graph
graph_of s lists vertices = record { vertices = vertices; edges = map (λ u. map (edge_between s lists u) vertices) vertices }

-- The pair of u and v has a new edge, and nothing else changed.
pub record ChangesPair (old new : Graph) (u v : ℕ) (edge : Edge) : Type 0 where
  pub vertices : new.vertices ≡ old.vertices
  pub forward : edge_at new u v ≡ edge
  pub backward : edge_at new v u ≡ opposite_of edge
  pub others : (x y : ℕ) → (x ≡ u → y ≡ v → ⊥) → (x ≡ v → y ≡ u → ⊥) → edge_at new x y ≡ edge_at old x y

-- the items that are wanted
abbrev pub wanted_of : {X : Type 0} → List Bool → List X → List X
wanted_of [] xs = []
wanted_of (w ∷ ws) [] = []
wanted_of (true ∷ ws) (x ∷ xs) = x ∷ wanted_of ws xs
wanted_of (false ∷ ws) (x ∷ xs) = wanted_of ws xs

-- the wanted vertices, with the edges that they had
abbrev pub kept_of : List Bool → Graph → Graph
kept_of wanted g = record { vertices = wanted_of wanted g.vertices; edges = map (wanted_of wanted) (wanted_of wanted g.edges) }

-- one entry changed
abbrev pub set_at : List (List Edge) → ℕ → ℕ → Edge → List (List Edge)
set_at rows u v edge = slice_set rows u (slice_set (slice_index_or rows u []) v edge)
