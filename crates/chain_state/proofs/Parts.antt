-- The batches of a complete graph are a partition of its vertices.
use Rattle.std.proofs.Common.{◌≡◌, ◌≢◌, ℕ, suc, ◌<◌, List, [], ◌∷◌, ◌++◌, length, get_or, true, false, Some, refl, sym, ap, ◌∙◌, inl, inr, arith}
use Rattle.std.specs.Prelude.{All, Any, slice_get}
use Rattle.std.specs.List.{list_any, AllByRecursion}
use Rattle.std.specs.List.Sorted.{IsStrictlySortedBy}
use Rattle.std.proofs.lemmas.Bool.{cases_Bool, both_ways, or_left, or_right, false_from_ne_true}
use Rattle.std.proofs.lemmas.List.{get_or_default}
use Rattle.std.proofs.lemmas.List.Elements.{All-append, recursion_from_All}
use Rattle.std.proofs.lemmas.List.Folds.{list_any-append, list_any_at, Any-from_list_any}
use Rattle.std.proofs.lemmas.List.Kept.{AllPairs-cons}
use Rattle.seq_base.specs.declared.tx.Tx.{Tx}
use Rattle.seq_base.specs.Lists.{AreDistinct, holds}
use Rattle.seq_base.specs.Tx.{tx_cmp, tx_eq, tx_eq_decides}
use Rattle.seq_base.proofs.Members.{holds_place, place_holds}
use Rattle.majority_graph.specs.Graph.{Graph, IsGraph, IsComplete}
use Rattle.batch_laws.specs.Batches.{AreBatches, StandsIn}
use Rattle.batch_laws.specs.Reached.{batches_of}
use Rattle.batch_laws.proofs.Computed.{are_batches_of}
use Rattle.fair_update.proofs.GraphTests.{vertices_apart}
use Rattle.chain_state.specs.Proposals.{joined}
use Rattle.chain_state.proofs.ZippedLists.{eq_self}

-- ascending lists hold nothing twice
ascending_distinct : (txs : List Tx) → IsStrictlySortedBy tx_cmp txs → AreDistinct txs
ascending_distinct txs ascending i j d below inside same =
    vertices_apart txs i j d ascending (omega (arith, below, inside)) inside (λ one. absurd (omega (arith, below, one))) same

first_apart : (x : Tx) (xs : List Tx) → AreDistinct (x ∷ xs) → All (λ y. x ≢ y) xs
first_apart x xs pairs k d inside = pairs 0 (suc k) d (omega arith) (omega (arith, inside))

rest_distinct : (x : Tx) (xs : List Tx) → AreDistinct (x ∷ xs) → AreDistinct xs
rest_distinct x xs pairs i j d below inside = pairs (suc i) (suc j) d (omega (arith, below)) (omega (arith, inside))

-- an absent item differs from each
apart_from_all : (x : Tx) (ys : List Tx) → holds x ys ≡ false → All (λ y. x ≢ y) ys
apart_from_all x ys lacking k d inside same =
    both_ways (holds x ys) lacking (list_any_at (λ (y : Tx). tx_eq y x) ys k d inside ((tx_eq_decides (get_or ys k d) x).1 (sym same)))

pub distinct-append : (xs ys : List Tx) → AreDistinct xs → AreDistinct ys → ((t : Tx) → holds t xs ≡ true → holds t ys ≡ false) → AreDistinct (xs ++ ys)
distinct-append [] ys one two apart = two
distinct-append (x ∷ xs) ys one two apart =
    AllPairs-cons (λ (u v : Tx). u ≢ v) x (xs ++ ys)
    (All-append (λ (y : Tx). x ≢ y) xs ys (first_apart x xs one) (apart_from_all x ys (apart x (or_left (tx_eq x x) (holds x xs) (eq_self x)))))
    (distinct-append xs ys (rest_distinct x xs one) two (λ t member. apart t (or_right (tx_eq x t) (holds t xs) member)))

-- what one of the lists holds
pub holds-joined : (batches : List (List Tx)) (t : Tx) → holds t (joined batches) ≡ list_any (holds t) batches
holds-joined [] t = refl
holds-joined (batch ∷ batches) t = list_any-append (λ (x : Tx). tx_eq x t) batch (joined batches) ∙ rw (holds-joined batches t) refl

stands_in : (batches : List (List Tx)) (t : Tx) → list_any (holds t) batches ≡ true → (i : ℕ) × (i < length batches) × StandsIn batches i t
stands_in batches t some =
    let found : Any (λ batch. holds t batch ≡ true) batches = Any-from_list_any (holds t) batches some in
    (found.0, found.2, ap (holds t) (get_or_default batches found.0 [] found.1 found.2 ∙ found.3) ∙ found.4)

-- ascending lists, no two of which share a transaction, hold none twice together
joined_distinct : (batches : List (List Tx)) → AllByRecursion (IsStrictlySortedBy tx_cmp) batches
    → ((i j : ℕ) (t : Tx) → StandsIn batches i t → StandsIn batches j t → i ≡ j) → AreDistinct (joined batches)
joined_distinct [] ascending one = λ i j d below inside. absurd (omega (arith, inside))
joined_distinct (batch ∷ batches) ascending one =
    distinct-append batch (joined batches) (ascending_distinct batch ascending.0)
    (joined_distinct batches ascending.1 (λ i j t first second. omega (arith, one (suc i) (suc j) t first second)))
    (λ t member. false_from_ne_true (holds t (joined batches)) (λ following.
    let there : (i : ℕ) × (i < length batches) × StandsIn batches i t = stands_in batches t (sym (holds-joined batches t) ∙ following) in
    absurd (omega (arith, one 0 (suc there.0) t member there.2))))

module _ (g : Graph) (graph : IsGraph g) (complete : IsComplete g) where
  batches : AreBatches g (batches_of g)
  batches = are_batches_of g graph complete

  pub batches_distinct : AreDistinct (joined (batches_of g))
  batches_distinct =
      joined_distinct (batches_of g) (recursion_from_All (IsStrictlySortedBy tx_cmp) (batches_of g) batches.ascending) (λ i j t first second.
      let there : (u : ℕ) × (slice_get g.vertices u ≡ Some t) = batches.vertices i t first in
      (batches.same there.0 there.0 i j t t there.1 there.1 first second).1 (([], refl), ([], refl)))

  -- they hold the vertices and nothing else
  pub batches_hold : (t : Tx) → list_any (holds t) (batches_of g) ≡ holds t g.vertices
  batches_hold t =
      elim (cases_Bool (holds t g.vertices)) [
        | inl member ↦
            let place : (k : ℕ) × (slice_get g.vertices k ≡ Some t) = holds_place g.vertices t member in
            let there = batches.each place.0 t place.1 in
            list_any_at (holds t) (batches_of g) there.0 [] there.1 there.2 ∙ sym member
        | inr other ↦
            false_from_ne_true (list_any (holds t) (batches_of g)) (λ some.
            let there : (i : ℕ) × (i < length (batches_of g)) × StandsIn (batches_of g) i t = stands_in (batches_of g) t some in
            let vertex : (u : ℕ) × (slice_get g.vertices u ≡ Some t) = batches.vertices there.0 t there.2 in
            both_ways (holds t g.vertices) other (place_holds g.vertices vertex.0 t vertex.1)) ∙ sym other
      ]
