-- Consequences of how weights give edges.
use Rattle.std.proofs.Common.{◌≡◌, ◌≢◌, ℕ, ◌<◌, ◌≤◌, List, [], length, get_or, map, Bool, true, false, cond, Some, refl, sym, ap, ◌∙◌, inl, inr, arith}
use Rattle.std.specs.Prelude.{slice_get, ◌⊎◌}
use Rattle.std.specs.Ordering.{is_lt, ordering_reverse}
use Rattle.std.specs.declared.cmp.Ordering.{Ordering}
use Rattle.std.specs.declared.cmp.Ordering.TheVariants.{Less, Equal, Greater}
use Rattle.std.specs.List.Sorted.{IsStrictlySortedBy}
use Rattle.std.proofs.lemmas.Bool.Decides.{nat_tests}
use Rattle.std.proofs.lemmas.List.{get_or-map, length-map}
use Rattle.std.proofs.lemmas.Option.{slice_get_cases, get_or_from_slice_get}
use Rattle.std.proofs.lemmas.List.Elements.{All-map}
use Rattle.seq_base.specs.declared.tx.Tx.{Tx}
use Rattle.seq_base.specs.Tx.{tx_cmp, tx_cmp_total}
use Rattle.seq_base.specs.Setting.{Parameters, threshold_of}
use Rattle.seq_base.proofs.Members.{any_tx}
use Rattle.majority_graph.specs.declared.edge.Edge.{Edge}
use Rattle.majority_graph.specs.declared.edge.Edge.TheVariants.{To, From, Missing}
use Rattle.majority_graph.specs.Edges.{outweighs, gives_edge, edge_between, opposite_of}
use Rattle.majority_graph.specs.Graph.{Graph, IsGraph, IsComplete, HasEdge, graph_of, edge_at}
use Rattle.majority_graph.specs.Weights.{weight}

pub opposite-opposite : (e : Edge) → opposite_of (opposite_of e) ≡ e
opposite-opposite To = refl
opposite-opposite From = refl
opposite-opposite Missing = refl

not_both_less : (o p : Ordering) → o ≡ ordering_reverse p → is_lt o ≡ true → is_lt p ≡ true → ⊥
not_both_less o Less e one other = let greater : is_lt Greater ≡ true = rw e at one in (cc)
not_both_less o Equal e one other = (cc)
not_both_less o Greater e one other = (cc)

-- two transactions are not each below the other
pub one_rises : (u v : Tx) → is_lt (tx_cmp u v) ≡ true → is_lt (tx_cmp v u) ≡ true → ⊥
one_rises u v = not_both_less (tx_cmp u v) (tx_cmp v u) (tx_cmp_total.antisymm u v)

pub not_both_outweigh : (t f w : ℕ) (r q : Bool) → (r ≡ true → q ≡ true → ⊥) → outweighs t f w r ≡ true → outweighs t w f q ≡ true → ⊥
not_both_outweigh t f w true true apart one other = apart refl refl
not_both_outweigh t f w true false apart one other = grind (arith, nat_tests)
not_both_outweigh t f w false true apart one other = grind (arith, nat_tests)
not_both_outweigh t f w false false apart one other = grind (arith, nat_tests)

pub not_both_give : (s : Parameters) (lists : List (List Tx)) (u v : Tx) → gives_edge s lists u v ≡ true → gives_edge s lists v u ≡ true → ⊥
not_both_give s lists u v =
    not_both_outweigh (threshold_of s) (weight lists u v) (weight lists v u) (is_lt (tx_cmp u v)) (is_lt (tx_cmp v u)) (one_rises u v)

pub seen_from_both : (a b : Bool) → (a ≡ true → b ≡ true → ⊥) → cond a To (cond b From Missing) ≡ opposite_of (cond b To (cond a From Missing))
seen_from_both true true apart = absurd (apart refl refl)
seen_from_both true false apart = refl
seen_from_both false true apart = refl
seen_from_both false false apart = refl

pub edge_opposite : (s : Parameters) (lists : List (List Tx)) (u v : Tx) → edge_between s lists u v ≡ opposite_of (edge_between s lists v u)
edge_opposite s lists u v = seen_from_both (gives_edge s lists u v) (gives_edge s lists v u) (not_both_give s lists u v)

pub edge_at-graph_of : (s : Parameters) (lists : List (List Tx)) (vertices : List Tx) (u v : ℕ) (d : Tx) → u < length vertices → v < length vertices
    → edge_at (graph_of s lists vertices) u v ≡ edge_between s lists (get_or vertices u d) (get_or vertices v d)
edge_at-graph_of s lists vertices u v d from to =
    ap (λ (row : List Edge). get_or row v Missing) (get_or-map (λ (a : Tx). map (edge_between s lists a) vertices) vertices u d [] from)
    ∙ get_or-map (edge_between s lists (get_or vertices u d)) vertices v d Missing to

-- the graph that the lists give meets the invariant
pub IsGraph-graph_of : (s : Parameters) (lists : List (List Tx)) (vertices : List Tx) → IsStrictlySortedBy tx_cmp vertices
    → length vertices ≤ 2048 → IsGraph (graph_of s lists vertices)
IsGraph-graph_of s lists vertices ascending few = record {
  ascending = ascending;
  few = few;
  rows = length-map vertices (λ (u : Tx). map (edge_between s lists u) vertices);
  columns = All-map (λ (row : List Edge). length row ≡ length vertices) (λ (u : Tx). map (edge_between s lists u) vertices) vertices
      (λ k d inside. length-map vertices (edge_between s lists (get_or vertices k d)));
  one_way = λ u v from to.
      edge_at-graph_of s lists vertices u v any_tx from to
      ∙ edge_opposite s lists (get_or vertices u any_tx) (get_or vertices v any_tx)
      ∙ ap opposite_of (sym (edge_at-graph_of s lists vertices v u any_tx to from));
}

place_inside : (vertices : List Tx) (u : ℕ) (a : Tx) → slice_get vertices u ≡ Some a → u < length vertices
place_inside vertices u a found =
    elim (slice_get_cases vertices u).1 [
      | inl here ↦ here.1
      | inr past ↦ absurd (cc)
    ]

pub edge_of_places : (s : Parameters) (lists : List (List Tx)) (vertices : List Tx) (u v : ℕ) (a b : Tx) → slice_get vertices u ≡ Some a
    → slice_get vertices v ≡ Some b
    → edge_at (graph_of s lists vertices) u v ≡ edge_between s lists a b
edge_of_places s lists vertices u v a b from to =
    edge_at-graph_of s lists vertices u v a (place_inside vertices u a from) (place_inside vertices v b to)
    ∙ ap (λ (x : Tx). edge_between s lists x (get_or vertices v a)) (get_or_from_slice_get vertices u a a from)
    ∙ ap (λ (y : Tx). edge_between s lists a y) (get_or_from_slice_get vertices v b a to)

cases_edge : (e : Edge) → (e ≡ To) ⊎ ((e ≡ From) ⊎ (e ≡ Missing))
cases_edge To = inl refl
cases_edge From = inr (inl refl)
cases_edge Missing = inr (inr refl)

pub edge_in_complete : (g : Graph) (u v : ℕ) → IsGraph g → IsComplete g → u < length g.vertices → v < length g.vertices → u ≢ v → HasEdge g u v ⊎ HasEdge g v u
edge_in_complete g u v graph complete from to apart =
    elim (cases_edge (edge_at g u v)) [
      | inl forward ↦ inl forward
      | inr (inl backward) ↦ inr (graph.one_way v u to from ∙ ap opposite_of backward)
      | inr (inr missing) ↦ absurd (complete u v from to apart missing)
    ]
