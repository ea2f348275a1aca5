-- A graph is unchanged where none of its waiting transactions is listed late.
use Rattle.std.proofs.Common.{◌≡◌, ℕ, ◌+◌, ◌<◌, List, [], ◌∷◌, length, get_or, Bool, true, false, refl, sym, ap, subst, ◌∙◌, inl, inr, arith}
use Rattle.std.specs.Prelude.{if◌then◌else◌}
use Rattle.std.specs.List.{list_any}
use Rattle.std.proofs.lemmas.Bool.{or_parts, cases_eq}
use Rattle.std.proofs.lemmas.Bool.Decides.{nat_tests}
use Rattle.std.proofs.lemmas.Option.{slice_get-get_or}
use Rattle.seq_base.specs.declared.tx.Tx.{Tx}
use Rattle.seq_base.specs.Lists.{holds}
use Rattle.seq_base.specs.Tx.{tx_eq}
use Rattle.seq_base.specs.Setting.{Parameters}
use Rattle.seq_base.proofs.Members.{place_holds, any_tx}
use Rattle.majority_graph.specs.declared.edge.Edge.{Edge}
use Rattle.majority_graph.specs.declared.edge.Edge.TheVariants.{Missing}
use Rattle.majority_graph.specs.Edges.{edge_between, gives_edge, opposite_of, outweighs}
use Rattle.majority_graph.specs.Graph.{Graph, IsGraph, edge_at}
use Rattle.majority_graph.specs.Later.{or_edge}
use Rattle.majority_graph.specs.Weights.{ranks_above, weight}
use Rattle.fair_update.specs.Updates.{updated}
use Rattle.fair_update.specs.Waiting.{waits, waiting_of}
use Rattle.fair_update.proofs.AnyGraph.{edge_at-updated, IsGraph-updated, same_graph, missing_or_given}
use Rattle.fair_update.proofs.GraphTests.{waits_decides}
use Rattle.fair_update.proofs.Given.{edge_between-self, given_is_left}
use Rattle.chain_state.proofs.ZippedLists.{none_at}
use Rattle.chain_state.proofs.Members.{holds-filter}

either_false : (b : Bool) → (if b then false else false) ≡ false
either_false true = refl
either_false false = refl

-- a transaction that a list does not hold ranks above nothing
ranks_none : (u v : Tx) (xs : List Tx) → holds u xs ≡ false → ranks_above u v xs ≡ false
ranks_none u v [] none = refl
ranks_none u v (x ∷ xs) none =
    let parts : (tx_eq x u ≡ false) × (holds u xs ≡ false) = or_parts (tx_eq x u) (holds u xs) none in
    rw (parts.0, ranks_none u v xs parts.1) (either_false (tx_eq x v))

weight_none : (lists : List (List Tx)) (u v : Tx) → list_any (holds u) lists ≡ false → weight lists u v ≡ 0
weight_none [] u v none = refl
weight_none (list ∷ lists) u v none =
    let parts : (holds u list ≡ false) × (list_any (holds u) lists ≡ false) = or_parts (holds u list) (list_any (holds u) lists) none in
    rw (ranks_none u v list parts.0, weight_none lists u v parts.1) refl

no_weight : (t backward : ℕ) (rises : Bool) → outweighs (t + 1) 0 backward rises ≡ false
no_weight t backward rises = grind (arith, nat_tests)

pub edge_between-none : (s : Parameters) (lists : List (List Tx)) (u v : Tx) → list_any (holds u) lists ≡ false
    → list_any (holds v) lists ≡ false → edge_between s lists u v ≡ Missing
edge_between-none s lists u v one other =
    let forward : gives_edge s lists u v ≡ false = rw (weight_none lists u v one) (no_weight _ (weight lists v u) _) in
    let backward : gives_edge s lists v u ≡ false = rw (weight_none lists v u other) (no_weight _ (weight lists u v) _) in
    rw (forward, backward) refl

module _ (s : Parameters) (late : List (List Tx)) (g : Graph) (graph : IsGraph g)
    (untouched : list_any (λ t. list_any (holds t) late) (waiting_of g) ≡ false) where
  -- a vertex of a missing pair is not listed
  not_listed : (u v : ℕ) → u < length g.vertices → v < length g.vertices → (u ≡ v → ⊥) → edge_at g u v ≡ Missing
      → list_any (holds (get_or g.vertices u any_tx)) late ≡ false
  not_listed u v from to apart missing =
      let t : Tx = get_or g.vertices u any_tx in
      let waiting : waits g t ≡ true =
      (waits_decides g graph t).1
      (u, v, record { from = slice_get-get_or g.vertices u any_tx from; to = to; apart = apart; missing = missing }) in
      let member : holds t (waiting_of g) ≡ true =
      holds-filter (waits g) t g.vertices (place_holds g.vertices u t (slice_get-get_or g.vertices u any_tx from)) waiting in
      none_at (λ (x : Tx). list_any (holds x) late) t (waiting_of g) member untouched

  between : (u v : ℕ) → u < length g.vertices → v < length g.vertices → edge_at g u v ≡ Missing
      → edge_between s late (get_or g.vertices u any_tx) (get_or g.vertices v any_tx) ≡ Missing
  between u v from to missing =
      elim (cases_eq u v) [
        | inl one ↦
            subst (λ (w : ℕ). edge_between s late (get_or g.vertices u any_tx) (get_or g.vertices w any_tx) ≡ Missing) one
            (edge_between-self s late (get_or g.vertices u any_tx))
        | inr apart ↦
            edge_between-none s late (get_or g.vertices u any_tx) (get_or g.vertices v any_tx) (not_listed u v from to apart missing)
            (not_listed v u to from (λ same. apart (sym same)) (graph.one_way v u to from ∙ ap opposite_of missing))
      ]

  pub untouched-updated : updated s late g ≡ g
  untouched-updated =
      same_graph (updated s late g) g (IsGraph-updated s late g graph) graph refl (λ u v from to.
      edge_at-updated s late g graph u v any_tx from to ∙ elim (missing_or_given (edge_at g u v)) [
        | inl missing ↦
            ap (λ (e : Edge). or_edge e (edge_between s late (get_or g.vertices u any_tx) (get_or g.vertices v any_tx))) missing
            ∙ between u v from to missing ∙ sym missing
        | inr given ↦ given_is_left (edge_at g u v) (edge_between s late (get_or g.vertices u any_tx) (get_or g.vertices v any_tx)) given
      ])
