-- Items of lists at places, and lists with one item replaced.
use Rattle.std.proofs.Common.{◌≡◌, ℕ, zero, suc, ◌+◌, ◌<◌, List, [], ◌∷◌, length, Some, refl, ap, subst, ◌∙◌, inl, inr, ◌⊎◌, arith}
use Rattle.std.specs.Prelude.{All, slice_get, slice_set}
use Rattle.std.specs.List.{range_with_len}
use Rattle.std.proofs.lemmas.Option.{get_or_from_slice_get, slice_get_within}

pub found_at : {X : Type 0} (xs : List X) (k : ℕ) → k < length xs → (x : X) × (slice_get xs k ≡ Some x)
found_at [] k inside = absurd (omega (arith, inside))
found_at (y ∷ xs) zero inside = (y, refl)
found_at (y ∷ xs) (suc k) inside = found_at xs k (omega (arith, inside))

pub range_at : (a n k : ℕ) → k < n → slice_get (range_with_len a n) k ≡ Some (a + k)
range_at a zero k lt = absurd (omega (arith, lt))
range_at a (suc n) zero lt = ap Some (omega arith)
range_at a (suc n) (suc k) lt = range_at (a + 1) n k (omega (arith, lt)) ∙ ap Some (omega arith)

-- what holds of all holds at a place
pub all_at : {X : Type 0} (P : X → Type 0) (xs : List X) (i : ℕ) (x : X) → All P xs → slice_get xs i ≡ Some x → P x
all_at P xs i x all is = subst P (get_or_from_slice_get xs i x x is) (all i x (slice_get_within xs i x is))

-- ---- one item replaced

pub set_cases : {X : Type 0} (xs : List X) (i j : ℕ) (x y : X) → slice_get (slice_set xs i x) j ≡ Some y
    → ((i ≡ j) × (x ≡ y)) ⊎ ((i ≡ j → ⊥) × (slice_get xs j ≡ Some y))
set_cases [] i j x y found = absurd (cc)
set_cases (z ∷ xs) zero zero x y found = inl (refl, (let same : x ≡ y = cc in same))
set_cases (z ∷ xs) zero (suc j) x y found = inr (λ same. (omega (arith, same)), found)
set_cases (z ∷ xs) (suc i) zero x y found = inr (λ same. (omega (arith, same)), found)
set_cases (z ∷ xs) (suc i) (suc j) x y found = elim (set_cases xs i j x y found) [
  | inl p ↦ inl (ap suc p.0, p.1)
  | inr p ↦ inr (λ same. p.0 (omega (arith, same)), p.1)
]

pub length_set : {X : Type 0} (xs : List X) (i : ℕ) (x : X) → length (slice_set xs i x) ≡ length xs
length_set [] i x = refl
length_set (y ∷ xs) zero x = refl
length_set (y ∷ xs) (suc i) x = ap suc (length_set xs i x)

pub get_set : {X : Type 0} (xs : List X) (i : ℕ) (x y : X) → slice_get xs i ≡ Some y → slice_get (slice_set xs i x) i ≡ Some x
get_set [] i x y found = absurd (cc)
get_set (z ∷ xs) zero x y found = refl
get_set (z ∷ xs) (suc i) x y found = get_set xs i x y found

pub get_other : {X : Type 0} (xs : List X) (i j : ℕ) (x : X) → (i ≡ j → ⊥) → slice_get (slice_set xs i x) j ≡ slice_get xs j
get_other [] i j x other = refl
get_other (z ∷ xs) zero zero x other = absurd (other refl)
get_other (z ∷ xs) zero (suc j) x other = refl
get_other (z ∷ xs) (suc i) zero x other = refl
get_other (z ∷ xs) (suc i) (suc j) x other = get_other xs i j x (λ e. other (ap suc e))
