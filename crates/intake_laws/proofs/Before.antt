-- The test that a list holds a without an earlier b, step by step.
use Rattle.std.proofs.Common.{◌≡◌, List, [], ◌∷◌, ◌++◌, Bool, true, false, not, cond, ◌&&◌, ◌||◌, refl, sym, subst, ◌∙◌, inl, inr}
use Rattle.std.specs.Prelude.{filter, Some}
use Rattle.std.specs.List.{before_first}
use Rattle.std.specs.Map.{lookup, keys_of}
use Rattle.std.proofs.lemmas.Bool.{cases_Bool, and_parts, or_parts, both_ways}
use Rattle.std.proofs.lemmas.List.Sums.{take_while-cons}
use Rattle.seq_base.specs.declared.tx.Tx.{Tx}
use Rattle.seq_base.specs.Tx.{tx_eq, tx_eq_decides}
use Rattle.seq_base.specs.Lists.{holds}
use Rattle.chain_laws.specs.Received.{is_before}

pub tx_same : (a : Tx) → tx_eq a a ≡ true
tx_same a = (tx_eq_decides a a).1 refl

pub tx_eq_sym : (a b : Tx) → tx_eq a b ≡ tx_eq b a
tx_eq_sym a b =
    elim (cases_Bool (tx_eq a b)) [
      | inl same ↦ let is : a ≡ b = (tx_eq_decides a b).0 same in rw is refl
      | inr other ↦ elim (cases_Bool (tx_eq b a)) [
        | inl same ↦ absurd (both_ways (tx_eq a b) other ((tx_eq_decides a b).1 (sym ((tx_eq_decides b a).0 same))))
        | inr apart ↦ other ∙ sym apart
      ]
    ]

holds-cons : (t x : Tx) (xs : List Tx) → holds t (x ∷ xs) ≡ (tx_eq x t || holds t xs)
holds-cons t x xs = refl

first-cons : (a x : Tx) (xs : List Tx) → before_first (λ y. tx_eq y a) (x ∷ xs) ≡ cond (not (tx_eq x a)) (x ∷ before_first (λ y. tx_eq y a) xs) []
first-cons a x xs = take_while-cons (λ (y : Tx). not (tx_eq y a)) x xs

pub before_here : (a b x : Tx) (xs : List Tx) → tx_eq x a ≡ true → is_before (x ∷ xs) a b ≡ true
before_here a b x xs same = rw (first-cons a x xs, same) refl

regroup : (h q r : Bool) → (h && not (q || r)) ≡ (not q && (h && not r))
regroup true true r = refl
regroup true false r = refl
regroup false true r = refl
regroup false false r = refl

pub before_later : (a b x : Tx) (xs : List Tx) → tx_eq x a ≡ false → is_before (x ∷ xs) a b ≡ (not (tx_eq x b) && is_before xs a b)
before_later a b x xs other =
    rw (first-cons a x xs, other) (regroup (holds a xs) (tx_eq x b) (holds b (before_first (λ y. tx_eq y a) xs)))

pub before_more : (a b : Tx) (xs ys : List Tx) → is_before xs a b ≡ true → is_before (xs ++ ys) a b ≡ true
before_more a b [] ys before = absurd (both_ways false refl before)
before_more a b (x ∷ xs) ys before =
    elim (cases_Bool (tx_eq x a)) [
      | inl here ↦ before_here a b x (xs ++ ys) here
      | inr later ↦
          let parts = and_parts (not (tx_eq x b)) (is_before xs a b) (sym (before_later a b x xs later) ∙ before) in
          before_later a b x (xs ++ ys) later ∙ both_true (not (tx_eq x b)) (is_before (xs ++ ys) a b) parts.0 (before_more a b xs ys parts.1)
    ]
  where
    both_true : (q r : Bool) → q ≡ true → r ≡ true → (q && r) ≡ true
    both_true q r one other = rw (one, other) refl

pub before_skip : (a b : Tx) (xs ys : List Tx) → holds b xs ≡ false → is_before ys a b ≡ true → is_before (xs ++ ys) a b ≡ true
before_skip a b [] ys none before = before
before_skip a b (x ∷ xs) ys none before =
    let parts = or_parts (tx_eq x b) (holds b xs) none in
    elim (cases_Bool (tx_eq x a)) [
      | inl here ↦ before_here a b x (xs ++ ys) here
      | inr later ↦ before_later a b x (xs ++ ys) later ∙ both_true (tx_eq x b) (is_before (xs ++ ys) a b) parts.0 (before_skip a b xs ys parts.1 before)
    ]
  where
    both_true : (q r : Bool) → q ≡ false → r ≡ true → (not q && r) ≡ true
    both_true q r one other = rw (one, other) refl

-- where b is not in the list at all
pub before_alone : (a b : Tx) (xs : List Tx) → holds a xs ≡ true → holds b xs ≡ false → is_before xs a b ≡ true
before_alone a b [] some none = absurd (both_ways false refl some)
before_alone a b (x ∷ xs) some none =
    let parts = or_parts (tx_eq x b) (holds b xs) none in
    elim (cases_Bool (tx_eq x a)) [
      | inl here ↦ before_here a b x xs here
      | inr later ↦
          let rest : holds a xs ≡ true = rw later at some in
          before_later a b x xs later ∙ both_true (tx_eq x b) (is_before xs a b) parts.0 (before_alone a b xs rest parts.1)
    ]
  where
    both_true : (q r : Bool) → q ≡ false → r ≡ true → (not q && r) ≡ true
    both_true q r one other = rw (one, other) refl

pub before_holds : (a b : Tx) (xs : List Tx) → is_before xs a b ≡ true → holds a xs ≡ true
before_holds a b xs before = (and_parts (holds a xs) _ before).0

module _ {X : Type 0} where
  -- a filter that keeps a's entry keeps a ahead of b
  pub before_filter : (a b : Tx) (p : Tx × X → Bool) (x : X) (es : List (Tx × X)) → lookup (tx_eq a) es ≡ Some x → p (a, x) ≡ true
      → is_before (keys_of es) a b ≡ true → is_before (keys_of (filter p es)) a b ≡ true
  before_filter a b p x [] found passes before = absurd (both_ways false refl before)
  before_filter a b p x (e ∷ es) found passes before =
      elim (cases_Bool (tx_eq e.0 a)) [
        | inl here ↦
            let same : e.0 ≡ a = (tx_eq_decides e.0 a).0 here in
            let is : tx_eq a e.0 ≡ true = tx_eq_sym a e.0 ∙ here in
            let value : Some e.1 ≡ Some x = rw is at found in
            let inside : e.1 ≡ x = cc in
            let kept : p e ≡ true = subst (λ (t : Tx). p (t, e.1) ≡ true) (sym same) (subst (λ (z : X). p (a, z) ≡ true) (sym inside) passes) in
            rw kept (before_here a b e.0 (keys_of (filter p es)) here)
        | inr later ↦
            let apart : tx_eq a e.0 ≡ false = tx_eq_sym a e.0 ∙ later in
            let rest : lookup (tx_eq a) es ≡ Some x = rw apart at found in
            let parts = and_parts (not (tx_eq e.0 b)) (is_before (keys_of es) a b) (sym (before_later a b e.0 (keys_of es) later) ∙ before) in
            let more : is_before (keys_of (filter p es)) a b ≡ true = before_filter a b p x es rest passes parts.1 in
            elim (cases_Bool (p e)) [
              | inl kept ↦ rw kept (before_later a b e.0 (keys_of (filter p es)) later ∙ both_true (not (tx_eq e.0 b)) _ parts.0 more)
              | inr left ↦ rw left more
            ]
      ]
    where
      both_true : (q r : Bool) → q ≡ true → r ≡ true → (q && r) ≡ true
      both_true q r one other = rw (one, other) refl
