-- Transactions of lists, their places, and ascending lists: such a list is determined by its members.
use Rattle.std.proofs.Common.{◌≡◌, ℕ, zero, suc, ◌<◌, List, [], ◌∷◌, true, false, Some, get_or, refl, sym, ap, subst, ◌∙◌, inl, inr}
use Rattle.std.specs.Prelude.{◌↔◌, slice_get}
use Rattle.std.specs.List.{AllByRecursion}
use Rattle.std.specs.List.Sorted.{IsStrictlySortedBy}
use Rattle.std.specs.Ordering.{eq_by_cmp, ordering_reverse}
use Rattle.std.specs.declared.cmp.Ordering.{Ordering}
use Rattle.std.specs.declared.cmp.Ordering.TheVariants.{Less, Equal, Greater}
use Rattle.std.proofs.lemmas.Bool.{cases_order, or_cases, or_left, or_right, false≢true}
use Rattle.std.proofs.lemmas.Option.{slice_get_within, get_or_from_slice_get, same_Some, none-some}
use Rattle.std.proofs.lemmas.Map.Keys.{IsDistinct-from_sorted, apart_from_distinct, sorted_head, sorted_tail}
use Rattle.seq_base.specs.declared.tx.Tx.{Tx}
use Rattle.seq_base.specs.Lists.{holds}
use Rattle.seq_base.specs.Tx.{tx_cmp, tx_eq, tx_eq_decides, tx_eq_ties, tx_cmp_total}

-- what a read past the end of a list gives
pub any_tx : Tx
any_tx = record { client = 0; number = 0; payload = 0 }

-- a member has a place
pub holds_place : (txs : List Tx) (t : Tx) → holds t txs ≡ true → (k : ℕ) × (slice_get txs k ≡ Some t)
holds_place [] t held = absurd (cc)
holds_place (x ∷ xs) t held =
    elim (or_cases (tx_eq x t) (holds t xs) held) [
      | inl here ↦ (0, ap Some ((tx_eq_decides x t).0 here))
      | inr following ↦ (let rest = holds_place xs t following in (suc rest.0, rest.1))
    ]

pub place_holds : (txs : List Tx) (k : ℕ) (t : Tx) → slice_get txs k ≡ Some t → holds t txs ≡ true
place_holds [] k t found = absurd (none-some t found)
place_holds (x ∷ xs) zero t found = or_left (tx_eq x t) (holds t xs) ((tx_eq_decides x t).1 (same_Some x t found))
place_holds (x ∷ xs) (suc k) t found = or_right (tx_eq x t) (holds t xs) (place_holds xs k t found)

-- it has only one place
places_apart : (txs : List Tx) (u v : ℕ) (a : Tx) → IsStrictlySortedBy tx_cmp txs → slice_get txs u ≡ Some a → slice_get txs v ≡ Some a → u < v → ⊥
places_apart txs u v a ascending one other below =
    let differ : eq_by_cmp tx_cmp (get_or txs u a) (get_or txs v a) ≡ false =
    apart_from_distinct (eq_by_cmp tx_cmp) txs u v a (IsDistinct-from_sorted tx_cmp txs ascending) below (slice_get_within txs v a other) in
    let same : eq_by_cmp tx_cmp a a ≡ true = sym (tx_eq_ties a a) ∙ (tx_eq_decides a a).1 refl in
    let here : eq_by_cmp tx_cmp a a ≡ false = rw (get_or_from_slice_get txs u a a one, get_or_from_slice_get txs v a a other) at differ in
    false≢true (sym here ∙ same)

pub one_place : (txs : List Tx) (u v : ℕ) (a : Tx) → IsStrictlySortedBy tx_cmp txs → slice_get txs u ≡ Some a → slice_get txs v ≡ Some a → u ≡ v
one_place txs u v a ascending one other =
    elim (cases_order u v) [
      | inl same ↦ same
      | inr (inl less) ↦ absurd (places_apart txs u v a ascending one other less)
      | inr (inr more) ↦ absurd (places_apart txs v u a ascending other one more)
    ]

held_has : (P : Tx → Type 0) (xs : List Tx) (t : Tx) → AllByRecursion P xs → holds t xs ≡ true → P t
held_has P [] t all held = absurd (cc)
held_has P (x ∷ xs) t all held =
    elim (or_cases (tx_eq x t) (holds t xs) held) [
      | inl here ↦ subst P ((tx_eq_decides x t).0 here) all.0
      | inr following ↦ held_has P xs t all.1 following
    ]

reversed_less : (o p : Ordering) → o ≡ ordering_reverse p → o ≡ Less → p ≡ Less → ⊥
reversed_less o Less e one other = (cc)
reversed_less o Equal e one other = (cc)
reversed_less o Greater e one other = (cc)

not_both_less : (x y : Tx) → tx_cmp x y ≡ Less → tx_cmp y x ≡ Less → ⊥
not_both_less x y = reversed_less (tx_cmp x y) (tx_cmp y x) (tx_cmp_total.antisymm x y)

holds_first : (x : Tx) (xs : List Tx) → holds x (x ∷ xs) ≡ true
holds_first x xs = or_left (tx_eq x x) (holds x xs) ((tx_eq_decides x x).1 refl)

-- ascending lists with the same members are equal
pub same_members : (xs ys : List Tx) → IsStrictlySortedBy tx_cmp xs → IsStrictlySortedBy tx_cmp ys
    → ((t : Tx) → (holds t xs ≡ true) ↔ (holds t ys ≡ true)) → xs ≡ ys
same_members [] [] one other members = refl
same_members [] (y ∷ ys) one other members = absurd (let held : holds y [] ≡ true = (members y).1 (holds_first y ys) in (cc))
same_members (x ∷ xs) [] one other members = absurd (let held : holds x [] ≡ true = (members x).0 (holds_first x xs) in (cc))
same_members (x ∷ xs) (y ∷ ys) one other members = ap (λ (z : Tx). z ∷ xs) first
    ∙ ap (λ (zs : List Tx). y ∷ zs) (same_members xs ys (sorted_tail tx_cmp x xs one) (sorted_tail tx_cmp y ys other) rest)
  where
    above : (t : Tx) → holds t xs ≡ true → tx_cmp x t ≡ Less
    above t held = held_has (λ z. tx_cmp x z ≡ Less) xs t (sorted_head tx_cmp x xs one) held

    over : (t : Tx) → holds t ys ≡ true → tx_cmp y t ≡ Less
    over t held = held_has (λ z. tx_cmp y z ≡ Less) ys t (sorted_head tx_cmp y ys other) held

    first : x ≡ y
    first =
        elim (or_cases (tx_eq y x) (holds x ys) ((members x).0 (holds_first x xs))) [
          | inl is ↦ sym ((tx_eq_decides y x).0 is)
          | inr low ↦ elim (or_cases (tx_eq x y) (holds y xs) ((members y).1 (holds_first y ys))) [
            | inl is ↦ (tx_eq_decides x y).0 is
            | inr high ↦ absurd (not_both_less x y (above y high) (over x low))
          ]
        ]

    rest : (t : Tx) → (holds t xs ≡ true) ↔ (holds t ys ≡ true)
    rest t = (
      (λ held. elim (or_cases (tx_eq y t) (holds t ys) ((members t).0 (or_right (tx_eq x t) (holds t xs) held))) [
        | inl is ↦
            let same : t ≡ x = sym ((tx_eq_decides y t).0 is) ∙ sym first in
            let less : tx_cmp x x ≡ Less = subst (λ (z : Tx). tx_cmp x z ≡ Less) same (above t held) in
            absurd (not_both_less x x less less)
        | inr following ↦ following
      ]),
      (λ held. elim (or_cases (tx_eq x t) (holds t xs) ((members t).1 (or_right (tx_eq y t) (holds t ys) held))) [
        | inl is ↦
            let same : t ≡ y = sym ((tx_eq_decides x t).0 is) ∙ first in
            let less : tx_cmp y y ≡ Less = subst (λ (z : Tx). tx_cmp y z ≡ Less) same (over t held) in
            absurd (not_both_less y y less less)
        | inr following ↦ following
      ]),
    )
