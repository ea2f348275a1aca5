-- What is in every list, list by list.
use Rattle.std.proofs.Common.{◌≡◌, ℕ, map, sym, ◌∙◌, List, [], ◌∷◌, Bool, true, ◌&&◌, Option, Some, None, Vec, Global, option_map, refl, inl, inr}
use Rattle.std.specs.List.{filter, list_all}
use Rattle.std.specs.Option.{unwrap_or}
use Rattle.std.proofs.lemmas.Bool.{cases_Bool}
use Rattle.seq_base.specs.declared.tx.Tx.{Tx}
use Rattle.seq_base.specs.Lists.{holds}
use Rattle.run_record.specs.Done.{narrowed, narrowed_by_all}

filter_both : {X : Type 0} (p q : X → Bool) (xs : List X) → filter (λ x. p x && q x) xs ≡ filter q (filter p xs)
filter_both p q [] = refl
filter_both p q (x ∷ xs) = elim (cases_Bool (p x)) [
  | inl first ↦ elim (cases_Bool (q x)) [
    | inl second ↦ rw (first, second, filter_both p q xs) refl
    | inr second ↦ rw (first, second, filter_both p q xs) refl
  ]
  | inr first ↦ rw (first, filter_both p q xs) refl
]

filter_all : {X : Type 0} (xs : List X) → filter (λ x. true) xs ≡ xs
filter_all [] = refl
filter_all (x ∷ xs) = rw (filter_all xs) refl

pub narrow_more : (earlier : Option (List Tx)) (list : List Tx) (others : List (List Tx))
    → narrowed_by_all earlier (list ∷ others) ≡ narrowed_by_all (Some (narrowed earlier list)) others
narrow_more None list others = refl
narrow_more (Some earlier) list others = filter_both (λ tx. holds tx list) (λ tx. list_all (holds tx) others) earlier

-- tests that agree on each item pass the same lists
pub same_all : {X : Type 0} (p q : X → Bool) → ((x : X) → p x ≡ q x) → (xs : List X) → list_all p xs ≡ list_all q xs
same_all p q same [] = refl
same_all p q same (x ∷ xs) = rw (same x, same_all p q same xs) refl

abbrev lists : List (ℕ × List Tx) → List (List Tx)
lists items = map (λ item. item.1) items

-- one more list of an honest replica, of those that are left
pub due_more : (earlier now : Option (List Tx)) (k : ℕ) (list all : List Tx) (left rest : List (ℕ × List Tx)) → narrowed_by_all earlier (lists left) ≡ all
    → left ≡ (k, list) ∷ rest → now ≡ Some (narrowed earlier list) → narrowed_by_all now (lists rest) ≡ all
due_more earlier now k list all left rest so_far walk here = rw here (sym (narrow_more earlier list (lists rest)) ∙ (rw walk at so_far))

pub due_skip : (earlier now : Option (List Tx)) (all : List Tx) (left rest : List (ℕ × List Tx)) → narrowed_by_all earlier (lists left) ≡ all
    → left ≡ rest → now ≡ earlier → narrowed_by_all now (lists rest) ≡ all
due_skip earlier now all left rest so_far walk same = rw (same, ← walk) so_far

-- no replica is left
pub due_end : (due : Option (Vec Tx Global)) (empty : Vec Tx Global) (all : List Tx) (left : List (ℕ × List Tx)) → empty.items ≡ [] → left ≡ []
    → narrowed_by_all (option_map (λ (txs : Vec Tx Global). txs.items) due) (lists left) ≡ all → (unwrap_or due empty).items ≡ all
due_end None empty all left none nobody so_far = none ∙ (rw nobody at so_far)
due_end (Some txs) empty all left none nobody so_far = sym (filter_all txs.items) ∙ (rw nobody at so_far)
