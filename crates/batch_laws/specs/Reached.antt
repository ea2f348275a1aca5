-- The vertices that walks lead to, and components numbered by how many vertices they reach: batches as a computed
-- list.
use Rattle.std.specs.Prelude.{◌≡◌, ℕ, zero, suc, ◌<◌, ◌↔◌, List, length, map, Bool, true, false, ◌&&◌, ◌||◌, ◌==◌, nat_lt, count_by}
use Rattle.std.specs.List.{range_with_len, position_or_len}
use Rattle.seq_base.specs.declared.tx.Tx.{Tx}
use Rattle.majority_graph.specs.declared.edge.Edge.{Edge}
use Rattle.majority_graph.specs.declared.edge.Edge.TheVariants.{To, From, Missing}
use Rattle.majority_graph.specs.Graph.{Graph, HasEdge, edge_at}
use Rattle.majority_graph.specs.Walks.{Walks}
use Rattle.batch_laws.specs.Batches.{lists_of}

-- whether an edge goes to the other vertex
abbrev pub is_to : Edge → Bool
is_to To = true
is_to From = false
is_to Missing = false

-- Whether a walk leads from u to v whose inner vertices are all below k (Roy 1959, Warshall 1962).
abbrev pub via : Graph → ℕ → ℕ → ℕ → Bool
via g zero u v = (u == v) || is_to (edge_at g u v)
via g (suc k) u v = via g k u v || (via g k u k && via g k k v)

-- whether a walk leads from u to v
abbrev pub reaches : Graph → ℕ → ℕ → Bool
reaches g = via g (length g.vertices)

-- the function answers, for any two vertices, whether a walk leads from one to the other
abbrev pub ReportWalks : Graph → (ℕ → ℕ → Bool) → Type 0
ReportWalks g reaches = (u v : ℕ) → u < length g.vertices → v < length g.vertices → (reaches u v ≡ true) ↔ Walks (HasEdge g) u v

-- how many of the vertices below `all` one reaches
abbrev pub reached_from : (ℕ → ℕ → Bool) → ℕ → ℕ → ℕ
reached_from reaches all u = count_by (reaches u) (range_with_len 0 all)

-- the least vertex that it reaches and that reaches it
abbrev pub head_of : (ℕ → ℕ → Bool) → ℕ → ℕ → ℕ
head_of reaches all u = position_or_len (λ v. reaches u v && reaches v u) (range_with_len 0 all)

-- A vertex that reaches more comes first. Among those that reach equally many, the one with the smaller head does.
abbrev pub stands_before : ℕ → ℕ → ℕ → ℕ → Bool
stands_before reached head others others_head = nat_lt others reached || ((reached == others) && nat_lt head others_head)

-- the number of heads that come before a vertex with this head that reaches this many
abbrev pub heads_before : (ℕ → ℕ → Bool) → ℕ → ℕ → ℕ → ℕ
heads_before reaches all reached head =
    count_by (λ w. (head_of reaches all w == w) && stands_before (reached_from reaches all w) (head_of reaches all w) reached head) (range_with_len 0 all)

-- the number of a vertex's component: the number of heads that come before it
abbrev pub number_by_reach : (ℕ → ℕ → Bool) → ℕ → ℕ → ℕ
number_by_reach reaches all u = heads_before reaches all (reached_from reaches all u) (head_of reaches all u)

-- the number of components: each has one head
abbrev pub heads_in : (ℕ → ℕ → Bool) → ℕ → ℕ
heads_in reaches all = count_by (λ w. head_of reaches all w == w) (range_with_len 0 all)

-- The batches of a graph, earliest first: for each number in turn, the vertices whose component has it.
abbrev pub batches_of : Graph → List (List Tx)
batches_of g =
    let all : ℕ = length g.vertices in
    lists_of (map (number_by_reach (reaches g) all) (range_with_len 0 all)) (heads_in (reaches g) all) g.vertices
