-- Which transactions a proposal keeps (Themis, CCS 2023, FairPropose; the bounds are this profile's).
use Rattle.std.specs.Prelude.{◌≡◌, ℕ, ◌≤◌, ◌↔◌, List, length, map, filter, Bool, true, false, ◌&&◌, nat_le, slice_index_or}
use Rattle.std.specs.List.{list_any, range_with_len}
use Rattle.std.specs.List.Sorted.{IsStrictlySortedBy}
use Rattle.seq_base.specs.declared.tx.Tx.{Tx}
use Rattle.seq_base.specs.Tx.{tx_cmp}
use Rattle.seq_base.specs.Lists.{holds, listed}
use Rattle.seq_base.specs.Setting.{Parameters, threshold_of, solid_of}
use Rattle.majority_graph.specs.declared.edge.Edge.TheVariants.{To}
use Rattle.majority_graph.specs.Edges.{edge_between}
use Rattle.majority_graph.specs.Graph.{Graph, graph_of, wanted_of}
use Rattle.majority_graph.specs.Walks.{Walks}
use Rattle.batch_laws.specs.Reached.{reaches}
use Rattle.tx_class.specs.Listed.{listed_in}

-- at least n-2f of the lists hold it
abbrev pub IsSolid : Parameters → List (List Tx) → Tx → Type 0
IsSolid s lists t = solid_of s ≤ listed lists t

-- it is not blank: at least as many lists as the threshold hold it
abbrev pub IsCandidate : Parameters → List (List Tx) → Tx → Type 0
IsCandidate s lists t = threshold_of s ≤ listed lists t

-- the lists give the edge from u to v
abbrev pub GiveEdge : Parameters → List (List Tx) → Tx → Tx → Type 0
GiveEdge s lists u v = edge_between s lists u v ≡ To

-- an edge between transactions that are not blank
pub record LeadsOn (s : Parameters) (lists : List (List Tx)) (u v : Tx) : Type 0 where
  pub «from» : IsCandidate s lists u
  pub to : IsCandidate s lists v
  pub edge : GiveEdge s lists u v

-- It is not blank, and a walk along transactions that are not blank leads from it to a solid one.
pub record IsKept (s : Parameters) (lists : List (List Tx)) (t : Tx) : Type 0 where
  pub candidate : IsCandidate s lists t
  pub leads : (x : Tx) × IsSolid s lists x × Walks (LeadsOn s lists) t x

-- all that are not blank, in ascending order
pub record AreCandidates (s : Parameters) (lists : List (List Tx)) (txs : List Tx) : Type 0 where
  pub ascending : IsStrictlySortedBy tx_cmp txs
  pub each : (t : Tx) → (holds t txs ≡ true) ↔ IsCandidate s lists t

-- all that are kept, in ascending order
pub record AreKept (s : Parameters) (lists : List (List Tx)) (txs : List Tx) : Type 0 where
  pub ascending : IsStrictlySortedBy tx_cmp txs
  pub each : (t : Tx) → (holds t txs ≡ true) ↔ IsKept s lists t

-- The same, computed.

-- all that are not blank, in ascending order
abbrev pub candidates_of : Parameters → List (List Tx) → List Tx
candidates_of s lists = filter (λ t. nat_le (threshold_of s) (listed lists t)) (listed_in lists)

-- whether a walk along these transactions leads from the one of number u to a solid one
abbrev pub leads_to_solid : Parameters → List (List Tx) → List Tx → ℕ → Bool
leads_to_solid s lists txs u =
    list_any (λ v. slice_index_or (map (λ t. nat_le (solid_of s) (listed lists t)) txs) v false && reaches (graph_of s lists txs) u v)
    (range_with_len 0 (length txs))

-- those that are not blank and from which such a walk leads
abbrev pub kept_by : Parameters → List (List Tx) → List Tx
kept_by s lists =
    let txs : List Tx = candidates_of s lists in
    wanted_of (map (leads_to_solid s lists txs) (range_with_len 0 (length txs))) txs

-- the proposal: what is kept, with the edges that the lists give
abbrev pub proposal_of : Parameters → List (List Tx) → Graph
proposal_of s lists = graph_of s lists (kept_by s lists)
