-- The tables of edges along a chain.
use Rattle.std.proofs.Common.{◌≡◌, ◌≢◌, ℕ, ◌≤◌, ◌<◌, List, [], ◌∷◌, ◌++◌, length, get_or, map, Bool, true, false, not, sym, ap, ap₂, ◌∙◌, inl, inr}
use Rattle.std.specs.Prelude.{◌&&◌, ◌⊎◌}
use Rattle.std.specs.List.{list_any}
use Rattle.std.specs.List.Sorted.{IsStrictlySortedBy}
use Rattle.std.proofs.lemmas.Bool.{and_cases, not-false, not-true}
use Rattle.std.proofs.lemmas.List.{get_or-map, length-map}
use Rattle.std.proofs.lemmas.List.Elements.{All-map}
use Rattle.std.proofs.lemmas.Option.{slice_get_within, get_or_from_slice_get}
use Rattle.seq_base.specs.declared.tx.Tx.{Tx}
use Rattle.seq_base.specs.Lists.{holds}
use Rattle.seq_base.specs.Tx.{tx_cmp, tx_eq, tx_eq_decides}
use Rattle.seq_base.specs.Setting.{Parameters}
use Rattle.seq_base.proofs.Members.{any_tx}
use Rattle.majority_graph.specs.declared.edge.Edge.{Edge}
use Rattle.majority_graph.specs.declared.edge.Edge.TheVariants.{To, From, Missing}
use Rattle.majority_graph.specs.Edges.{edge_between, opposite_of}
use Rattle.majority_graph.specs.Graph.{IsGraph, edge_at, graph_of}
use Rattle.majority_graph.specs.Later.{or_edge, first_edge, HasFirstEdges}
use Rattle.majority_graph.proofs.WantedFirst.{with_rows}
use Rattle.fair_laws.proofs.Lateness.{first_edge_opposite}
use Rattle.fair_update.specs.Updates.{updated_row, updated}
use Rattle.fair_update.specs.Waiting.{is_missing, lacks, waits, is_complete}
use Rattle.chain_state.specs.Lists.{BlockLists}
use Rattle.chain_state.specs.Proposals.{graph_over}
use Rattle.chain_state.proofs.FirstEdges.{or_missing, first_edge-more, first_edge-stays, first_edge-self}
use Rattle.chain_state.proofs.ZippedLists.{map_zip, any_zip, map_agree, any_agree, map_on, none_at, eq_self}

abbrev pub late_of : BlockLists → List (List Tx)
late_of b = b.late

-- one block alone gives its own edges
pub graph_over-one : (s : Parameters) (vertices : List Tx) (lists : List (List Tx)) → graph_over s vertices (lists ∷ []) ≡ graph_of s lists vertices
graph_over-one s vertices lists =
    ap (with_rows vertices) (map_agree (λ (u : Tx). map (first_edge s (lists ∷ []) u) vertices) (λ (u : Tx). map (edge_between s lists u) vertices)
    (λ u. map_agree (first_edge s (lists ∷ []) u) (edge_between s lists u) (λ v. or_missing (edge_between s lists u v)) vertices) vertices)

-- one more block updates the graph
pub updated_is : (s : Parameters) (vertices : List Tx) (blocks : List (List (List Tx))) (late : List (List Tx))
    → updated s late (graph_over s vertices blocks) ≡ graph_over s vertices (blocks ++ late ∷ [])
updated_is s vertices blocks late =
    let row : (u : Tx) → updated_row s late vertices u (map (first_edge s blocks u) vertices) ≡ map (first_edge s (blocks ++ late ∷ []) u) vertices =
    λ u. map_zip (λ (entry : Tx × Edge). or_edge entry.1 (edge_between s late u entry.0)) (first_edge s blocks u) vertices
    ∙ map_agree (λ (v : Tx). or_edge (first_edge s blocks u v) (edge_between s late u v)) (first_edge s (blocks ++ late ∷ []) u)
    (λ v. sym (first_edge-more s blocks late u v)) vertices in
    ap (with_rows vertices) (
    map_zip (λ (entry : Tx × List Edge). updated_row s late vertices entry.0 entry.1) (λ (u : Tx). map (first_edge s blocks u) vertices) vertices
    ∙ map_agree (λ (u : Tx). updated_row s late vertices u (map (first_edge s blocks u) vertices))
    (λ (u : Tx). map (first_edge s (blocks ++ late ∷ []) u) vertices) row vertices
    )

-- what waits, by the edges of transactions
abbrev lacks_over : (Tx → Tx → Edge) → List Tx → Tx → Bool
lacks_over edge vertices u = list_any (λ v. is_missing (edge u v) && not (tx_eq v u)) vertices

lacks_is : (edge : Tx → Tx → Edge) (vertices : List Tx) (u : Tx) → lacks vertices u (map (edge u) vertices) ≡ lacks_over edge vertices u
lacks_is edge vertices u = any_zip (λ (entry : Tx × Edge). is_missing entry.1 && not (tx_eq entry.0 u)) (edge u) vertices

waits_is : (s : Parameters) (vertices : List Tx) (blocks : List (List (List Tx))) (t : Tx)
    → waits (graph_over s vertices blocks) t ≡ list_any (λ u. tx_eq u t && lacks_over (first_edge s blocks) vertices u) vertices
waits_is s vertices blocks t =
    any_zip (λ (entry : Tx × List Edge). tx_eq entry.0 t && lacks vertices entry.0 entry.1) (λ (u : Tx). map (first_edge s blocks u) vertices) vertices
    ∙ any_agree (λ (u : Tx). tx_eq u t && lacks vertices u (map (first_edge s blocks u) vertices))
    (λ (u : Tx). tx_eq u t && lacks_over (first_edge s blocks) vertices u)
    (λ u. ap (λ (b : Bool). tx_eq u t && b) (lacks_is (first_edge s blocks) vertices u)) vertices

left_true : (a b : Bool) → a ≡ true → (a && b) ≡ false → b ≡ false
left_true true b is none = none
left_true false b is none = absurd (cc)

given_from_test : (e : Edge) → is_missing e ≡ false → e ≢ Missing
given_from_test To is same = absurd (cc)
given_from_test From is same = absurd (cc)
given_from_test Missing is same = absurd (cc)

-- in a complete graph each pair has its edge, or is no pair
pair_given : (s : Parameters) (vertices : List Tx) (blocks : List (List (List Tx))) (u v : Tx)
    → is_complete (graph_over s vertices blocks) ≡ true → holds u vertices ≡ true → holds v vertices ≡ true
    → (is_missing (first_edge s blocks u v) ≡ false) ⊎ (not (tx_eq v u) ≡ false)
pair_given s vertices blocks u v complete from to =
    let none : list_any (waits (graph_over s vertices blocks)) vertices ≡ false = not-true _ complete in
    let still : waits (graph_over s vertices blocks) u ≡ false = none_at (waits (graph_over s vertices blocks)) u vertices from none in
    let by_edges : list_any (λ x. tx_eq x u && lacks_over (first_edge s blocks) vertices x) vertices ≡ false = sym (waits_is s vertices blocks u) ∙ still in
    let at_u : (tx_eq u u && lacks_over (first_edge s blocks) vertices u) ≡ false =
    none_at (λ (x : Tx). tx_eq x u && lacks_over (first_edge s blocks) vertices x) u vertices from by_edges in
    let row : lacks_over (first_edge s blocks) vertices u ≡ false = left_true (tx_eq u u) (lacks_over (first_edge s blocks) vertices u) (eq_self u) at_u in
    and_cases (is_missing (first_edge s blocks u v)) (not (tx_eq v u))
    (none_at (λ (y : Tx). is_missing (first_edge s blocks u y) && not (tx_eq y u)) v vertices to row)

entry_stays : (s : Parameters) (vertices : List Tx) (blocks more : List (List (List Tx))) (u v : Tx)
    → is_complete (graph_over s vertices blocks) ≡ true → holds u vertices ≡ true → holds v vertices ≡ true
    → first_edge s (blocks ++ more) u v ≡ first_edge s blocks u v
entry_stays s vertices blocks more u v complete from to =
    elim (pair_given s vertices blocks u v complete from to) [
      | inl given ↦ first_edge-stays s blocks more u v (given_from_test (first_edge s blocks u v) given)
      | inr one ↦
          let same : v ≡ u = (tx_eq_decides v u).0 (not-false (tx_eq v u) one) in
          rw same (first_edge-self s (blocks ++ more) u ∙ sym (first_edge-self s blocks u))
    ]

-- a complete graph is unchanged, whatever blocks follow
pub graph_over-stays : (s : Parameters) (vertices : List Tx) (blocks more : List (List (List Tx)))
    → is_complete (graph_over s vertices blocks) ≡ true → graph_over s vertices (blocks ++ more) ≡ graph_over s vertices blocks
graph_over-stays s vertices blocks more complete =
    ap (with_rows vertices) (map_on (λ (u : Tx). map (first_edge s (blocks ++ more) u) vertices) (λ (u : Tx). map (first_edge s blocks u) vertices) vertices
    (λ u from. map_on (first_edge s (blocks ++ more) u) (first_edge s blocks u) vertices (λ v to. entry_stays s vertices blocks more u v complete from to)))

-- the entries of the table
pub edge_at-graph_over : (s : Parameters) (vertices : List Tx) (blocks : List (List (List Tx))) (u v : ℕ) (d : Tx) → u < length vertices → v < length vertices
    → edge_at (graph_over s vertices blocks) u v ≡ first_edge s blocks (get_or vertices u d) (get_or vertices v d)
edge_at-graph_over s vertices blocks u v d from to =
    ap (λ (row : List Edge). get_or row v Missing) (get_or-map (λ (a : Tx). map (first_edge s blocks a) vertices) vertices u d [] from)
    ∙ get_or-map (first_edge s blocks (get_or vertices u d)) vertices v d Missing to

-- in terms of the edges over the lifetime of a proposal
pub has_first_edges : (s : Parameters) (vertices : List Tx) (blocks : List (List (List Tx))) → HasFirstEdges s blocks (graph_over s vertices blocks)
has_first_edges s vertices blocks u v a b from to =
    edge_at-graph_over s vertices blocks u v a (slice_get_within vertices u a from) (slice_get_within vertices v b to)
    ∙ ap₂ (first_edge s blocks) (get_or_from_slice_get vertices u a a from) (get_or_from_slice_get vertices v b a to)

-- what a chain gives is a graph
pub IsGraph-graph_over : (s : Parameters) (vertices : List Tx) (blocks : List (List (List Tx)))
    → IsStrictlySortedBy tx_cmp vertices → length vertices ≤ 2048 → IsGraph (graph_over s vertices blocks)
IsGraph-graph_over s vertices blocks ascending few = record {
  ascending = ascending;
  few = few;
  rows = length-map vertices (λ (u : Tx). map (first_edge s blocks u) vertices);
  columns = All-map (λ (row : List Edge). length row ≡ length vertices) (λ (u : Tx). map (first_edge s blocks u) vertices) vertices
      (λ k d inside. length-map vertices (first_edge s blocks (get_or vertices k d)));
  one_way = λ u v from to.
      edge_at-graph_over s vertices blocks u v any_tx from to
      ∙ first_edge_opposite s blocks (get_or vertices u any_tx) (get_or vertices v any_tx)
      ∙ ap opposite_of (sym (edge_at-graph_over s vertices blocks v u any_tx to from));
}
