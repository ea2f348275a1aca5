-- Entries of a map after one value changed, and counts of entries.
use Rattle.std.proofs.Common.{◌≡◌, ◌+◌, ◌≤◌, List, [], ◌∷◌, map, filter, Bool, true, false, true≢false, cond, Option, Some, None, is_some, refl, sym, ap, subst, ◌∙◌, inl, inr, arith, if◌then◌else◌, count_by, unwrap_or}
use Rattle.std.specs.Map.{lookup, keys_of}
use Rattle.std.specs.Map.Calls.{RetainsPairs}
use Rattle.std.specs.List.{AllByRecursion, IsDistinct}
use Rattle.std.proofs.lemmas.Bool.{cases_Bool}
use Rattle.std.proofs.lemmas.List.Sums.{sum_by-cons}
use Rattle.std.proofs.lemmas.Map.Keys.{IsDistinct-head, IsDistinct-tail}
use Rattle.indexmap.specs.IndexMap.{insert_entry}

some_same : {X : Type 0} (a b : X) → Some a ≡ Some b → a ≡ b
some_same {X} a b h = ap (λ (o : Option X). unwrap_or o a) h

module _ {K X : Type 0} (eq : K → K → Bool) (same : (a b : K) → eq a b ≡ true → a ≡ b) (k : K) (f : X → X) where
  -- the value under one key changed
  abbrev change : K × X → K × X
  change e = if eq k e.0 then (e.0, f e.1) else e

  untouched : (es : List (K × X)) → AllByRecursion (λ q. eq k q ≡ false) (keys_of es) → map change es ≡ es
  untouched [] none = refl
  untouched (e ∷ es) none = rw (none.0, untouched es none.1) refl

  pub change-absent : (es : List (K × X)) → lookup (eq k) es ≡ None → map change es ≡ es
  change-absent [] none = refl
  change-absent (e ∷ es) none =
      let found : cond (eq k e.0) (Some e.1) (lookup (eq k) es) ≡ None = none in
      elim (cases_Bool (eq k e.0)) [
        | inl here ↦ absurd (true≢false (ap is_some (rw here at found)))
        | inr away ↦ rw (away, change-absent es (rw away at found)) refl
      ]

  pub change-present : (es : List (K × X)) (v : X) → lookup (eq k) es ≡ Some v → IsDistinct eq (keys_of (insert_entry eq es k (f v)))
      → insert_entry eq es k (f v) ≡ map change es
  change-present [] v found apart = absurd (true≢false (sym (ap is_some found)))
  change-present (e ∷ es) v found apart =
      let is : cond (eq k e.0) (Some e.1) (lookup (eq k) es) ≡ Some v = found in
      let distinct : IsDistinct eq (keys_of (cond (eq k e.0) ((e.0, f v) ∷ es) (e ∷ insert_entry eq es k (f v)))) = apart in
      elim (cases_Bool (eq k e.0)) [
        | inl here ↦
            let value : e.1 ≡ v = some_same e.1 v (rw here at is) in
            let others : AllByRecursion (λ q. eq e.0 q ≡ false) (keys_of es) = IsDistinct-head eq e.0 (keys_of es) (rw here at distinct) in
            let mine : AllByRecursion (λ q. eq k q ≡ false) (keys_of es) =
            subst (λ (x : K). AllByRecursion (λ q. eq x q ≡ false) (keys_of es)) (sym (same k e.0 here)) others in
            rw (here, value, untouched es mine) refl
        | inr away ↦
            let rest : IsDistinct eq (keys_of (insert_entry eq es k (f v))) = IsDistinct-tail eq e.0 _ (rw away at distinct) in
            rw (away, change-present es v (rw away at is) rest) refl
      ]

-- a count does not change where each entry passes as before
pub count-map : {X : Type 0} (p : X → Bool) (g : X → X) → ((x : X) → p (g x) ≡ p x) → (xs : List X) → count_by p (map g xs) ≡ count_by p xs
count-map p g same [] = refl
count-map p g same (x ∷ xs) =
    sum_by-cons (λ y. cond (p y) 1 0) (g x) (map g xs)
    ∙ rw (same x, count-map p g same xs) (sym (sum_by-cons (λ y. cond (p y) 1 0) x xs))

-- a filter lowers no count of what is left out
pub count-filter : {X : Type 0} (p q : X → Bool) (xs : List X) → count_by p (filter q xs) ≤ count_by p xs
count-filter p q [] = omega arith
count-filter p q (x ∷ xs) =
    let whole : count_by p (x ∷ xs) ≡ cond (p x) 1 0 + count_by p xs = sum_by-cons (λ y. cond (p y) 1 0) x xs in
    let first : count_by p (x ∷ filter q xs) ≡ cond (p x) 1 0 + count_by p (filter q xs) = sum_by-cons (λ y. cond (p y) 1 0) x (filter q xs) in
    let rest = count-filter p q xs in
    elim (cases_Bool (q x)) [
      | inl stays ↦ rw (stays, whole, first) (omega (arith, rest))
      | inr goes ↦ rw (goes, whole) (omega (arith, rest))
    ]

-- what `retain` leaves where the closure returns `true` and changes each value
module _ {K X F : Type 0} (T : F → K → X → Bool → X → F → Type 0) (g : K × X → K × X) (f : F)
    (key : (e : K × X) → (g e).0 ≡ e.0)
    (says : (k : K) (v : X) (b : Bool) (w : X) (f' : F) → T f k v b w f' → (b ≡ true) × (w ≡ (g (k, v)).1) × (f' ≡ f)) where
  pub map_RetainsPairs : (es kept : List (K × X)) → RetainsPairs T f es kept → kept ≡ map g es
  map_RetainsPairs [] kept h = h
  map_RetainsPairs (e ∷ es) kept h =
      let s = says e.0 e.1 h.0 h.1 h.2 h.4 in
      let rest = map_RetainsPairs es h.3 (subst (λ q. RetainsPairs T q es h.3) s.2 h.5) in
      h.6 ∙ (λ j. cond (s.0 j) ((e.0, s.1 j) ∷ rest j) (rest j)) ∙ ap (λ k. (k, (g e).1) ∷ map g es) (sym (key e))
