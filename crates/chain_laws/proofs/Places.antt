-- The test of which of two transactions comes before the other, by their places.
use Rattle.std.proofs.Common.{◌≡◌, ◌≢◌, ℕ, zero, suc, ◌<◌, List, [], ◌∷◌, Bool, true, false, cond, Some, refl, sym, ap, ◌∙◌, inl, inr, arith}
use Rattle.std.specs.Prelude.{◌↔◌, slice_get}
use Rattle.std.proofs.lemmas.Bool.{cases_Bool, false≢true}
use Rattle.std.proofs.lemmas.Option.{same_Some}
use Rattle.seq_base.specs.declared.tx.Tx.{Tx}
use Rattle.seq_base.specs.Tx.{tx_eq, tx_eq_decides}
use Rattle.majority_graph.specs.Weights.{ranks_above}
use Rattle.fair_laws.proofs.OwedEdges.{ranks_without_earlier}
use Rattle.chain_laws.specs.Received.{Before, is_before}

module _ (a b : Tx) where
  before_if : (xs : List Tx) → ranks_above a b xs ≡ true → Before xs a b
  before_if [] above = absurd (false≢true above)
  before_if (x ∷ xs) above =
      elim (cases_Bool (tx_eq x b)) [
        | inl is_b ↦ absurd (false≢true (ap (λ (c : Bool). cond c false (cond (tx_eq x a) true (ranks_above a b xs))) (sym is_b) ∙ above))
        | inr not_b ↦ elim (cases_Bool (tx_eq x a)) [
          | inl is_a ↦ record { place = 0; stands = ap Some ((tx_eq_decides x a).0 is_a); later = following x xs not_b }
          | inr not_a ↦
              let rest : Before xs a b = before_if xs (sym (ap (λ (c : Bool). cond c false (cond (tx_eq x a) true (ranks_above a b xs))) not_b
              ∙ ap (λ (c : Bool). cond c true (ranks_above a b xs)) not_a) ∙ above) in
              record { place = suc rest.place; stands = rest.stands; later = moved x xs not_b rest.place rest.later }
        ]
      ]
    where
      following : (x : Tx) (xs : List Tx) → tx_eq x b ≡ false → (other : ℕ) → slice_get (x ∷ xs) other ≡ Some b → 0 < other
      following x xs not_b zero is = absurd (false≢true (sym not_b ∙ (tx_eq_decides x b).1 (same_Some x b is)))
      following x xs not_b (suc other) is = omega arith

      moved : (x : Tx) (xs : List Tx) → tx_eq x b ≡ false → (place : ℕ) → ((other : ℕ) → slice_get xs other ≡ Some b → place < other)
          → (other : ℕ) → slice_get (x ∷ xs) other ≡ Some b → suc place < other
      moved x xs not_b place later zero is = absurd (false≢true (sym not_b ∙ (tx_eq_decides x b).1 (same_Some x b is)))
      moved x xs not_b place later (suc other) is = omega (arith, later other is)

  -- b is not the first
  not_first : (x : Tx) (xs : List Tx) (place : ℕ) → ((other : ℕ) → slice_get (x ∷ xs) other ≡ Some b → place < other) → tx_eq x b ≡ false
  not_first x xs place later =
      elim (cases_Bool (tx_eq x b)) [
        | inl is_b ↦ let none : place < 0 = later 0 (ap Some ((tx_eq_decides x b).0 is_b)) in absurd (omega arith)
        | inr not_b ↦ not_b
      ]

  above_if : (xs : List Tx) (place : ℕ) → slice_get xs place ≡ Some a → ((other : ℕ) → slice_get xs other ≡ Some b → place < other) → ranks_above a b xs ≡ true
  above_if [] place stands later = absurd (cc)
  above_if (x ∷ xs) zero stands later =
      let is_a : tx_eq x a ≡ true = (tx_eq_decides x a).1 (same_Some x a stands) in
      rw (not_first x xs zero later, is_a) refl
  above_if (x ∷ xs) (suc place) stands later =
      let rest : ranks_above a b xs ≡ true = above_if xs place stands (λ other is. let far : suc place < suc other = later (suc other) is in omega arith) in
      elim (cases_Bool (tx_eq x a)) [
        | inl is_a ↦ rw (not_first x xs (suc place) later, is_a) refl
        | inr not_a ↦ rw (not_first x xs (suc place) later, not_a) rest
      ]

pub before_by_places : (list : List Tx) (a b : Tx) → a ≢ b → (is_before list a b ≡ true) ↔ Before list a b
before_by_places list a b apart =
    let tests : ranks_above a b list ≡ is_before list a b = ranks_without_earlier b a list (λ same. apart (sym same)) in (
      (λ is. before_if a b list (tests ∙ is)),
      (λ before. sym tests ∙ above_if a b list before.place before.stands before.later),
    )
