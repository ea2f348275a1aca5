-- The items of a list that pass a test, place by place.
use Rattle.std.proofs.Common.{◌≡◌, ℕ, zero, suc, ◌+◌, ◌-◌, ◌<◌, List, ◌∷◌, length, drop, Bool, true, false, Option, Some, None, slice_get, refl, sym, ap, ◌∙◌, arith, inl, inr}
use Rattle.std.specs.List.{filter}
use Rattle.std.specs.Option.{option_map_or}
use Rattle.std.proofs.lemmas.Option.{slice_get_cases}
use Rattle.quorum_cert.proofs.Dropped.{drop_found}

module _ {X : Type 0} (p : X → Bool) (xs : List X) where
  -- the item at a place passes
  pub passes : (k : ℕ) → option_map_or p (slice_get xs k) false ≡ true
      → (x : X) × (slice_get xs k ≡ Some x) × (filter p (drop k xs) ≡ x ∷ filter p (drop (k + 1) xs))
  passes k is = by (slice_get xs k) refl is
    where
      by : (found : Option X) → slice_get xs k ≡ found → option_map_or p found false ≡ true
          → (x : X) × (slice_get xs k ≡ Some x) × (filter p (drop k xs) ≡ x ∷ filter p (drop (k + 1) xs))
      by None at e = absurd (cc)
      by (Some x) at e = (x, at, rw (drop_found xs k x at, e) refl)

  -- it does not
  pub fails : (k : ℕ) → k < length xs → option_map_or p (slice_get xs k) false ≡ false → filter p (drop k xs) ≡ filter p (drop (k + 1) xs)
  fails k within is = by (slice_get xs k) refl is
    where
      by : (found : Option X) → slice_get xs k ≡ found → option_map_or p found false ≡ false → filter p (drop k xs) ≡ filter p (drop (k + 1) xs)
      by None at e = elim (slice_get_cases xs k).1 [
        | inl found ↦ absurd (let here : Some found.0 ≡ None = sym found.2 ∙ at in cc)
        | inr past ↦ absurd (omega (arith, within, past.0))
      ]
      by (Some x) at e = rw (drop_found xs k x at, e) refl

pub slice_next : {X : Type 0} (x : X) (ys : List X) (n : ℕ) → 0 < n → slice_get (x ∷ ys) n ≡ slice_get ys (n - 1)
slice_next x ys zero some = absurd (omega (arith, some))
slice_next x ys (suc n) some =
    let less : n ≡ suc n - 1 = omega arith in
    ap (slice_get ys) less
