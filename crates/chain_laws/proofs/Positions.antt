-- The elements at the indices of lists made of other lists.
use Rattle.std.proofs.Common.{◌≡◌, ℕ, zero, suc, ◌<◌, List, [], ◌∷◌, get_or, map, take, Some, refl, ap, subst, ◌∙◌, arith}
use Rattle.std.specs.Prelude.{slice_get, All, Any}
use Rattle.std.proofs.lemmas.Option.{none-some, same_Some, slice_get_within, slice_get-get_or, get_or_from_slice_get}

module _ {X : Type 0} where
  pub place_in_prefix : (xs : List X) (n k : ℕ) (x : X) → slice_get (take n xs) k ≡ Some x → (k < n) × (slice_get xs k ≡ Some x)
  place_in_prefix xs zero k x found = absurd (none-some x found)
  place_in_prefix [] (suc n) k x found = absurd (none-some x found)
  place_in_prefix (y ∷ xs) (suc n) zero x found = ((omega arith), found)
  place_in_prefix (y ∷ xs) (suc n) (suc k) x found =
      let rest : (k < n) × (slice_get xs k ≡ Some x) = place_in_prefix xs n k x found in ((omega (arith, rest.0)), rest.1)

  pub prefix_place : (xs : List X) (n k : ℕ) (x : X) → k < n → slice_get xs k ≡ Some x → slice_get (take n xs) k ≡ Some x
  prefix_place xs zero k x before found = absurd (omega (arith, before))
  prefix_place [] (suc n) k x before found = absurd (none-some x found)
  prefix_place (y ∷ xs) (suc n) zero x before found = found
  prefix_place (y ∷ xs) (suc n) (suc k) x before found = prefix_place xs n k x (omega (arith, before)) found

  module _ (P : X → Type 0) where
    pub at_place : (xs : List X) (k : ℕ) (x : X) → All P xs → slice_get xs k ≡ Some x → P x
    at_place xs k x all found = subst P (get_or_from_slice_get xs k x x found) (all k x (slice_get_within xs k x found))

    pub all_places : (xs : List X) → ((k : ℕ) (x : X) → slice_get xs k ≡ Some x → P x) → All P xs
    all_places xs each k d inside = each k (get_or xs k d) (slice_get-get_or xs k d inside)

    pub any_place : (xs : List X) → Any P xs → (k : ℕ) × (x : X) × (slice_get xs k ≡ Some x) × P x
    any_place xs found = (found.0, found.1, slice_get-get_or xs found.0 found.1 found.2 ∙ ap Some found.3, found.4)

    pub place_any : (xs : List X) (k : ℕ) (x : X) → slice_get xs k ≡ Some x → P x → Any P xs
    place_any xs k x found holds = (k, x, slice_get_within xs k x found, get_or_from_slice_get xs k x x found, holds)

module _ {X Y : Type 0} (f : X → Y) where
  pub image_place : (xs : List X) (k : ℕ) (y : Y) → slice_get (map f xs) k ≡ Some y → (x : X) × (slice_get xs k ≡ Some x) × (f x ≡ y)
  image_place [] k y found = absurd (none-some y found)
  image_place (x ∷ xs) zero y found = (x, refl, same_Some (f x) y found)
  image_place (x ∷ xs) (suc k) y found = image_place xs k y found

  pub place_image : (xs : List X) (k : ℕ) (x : X) → slice_get xs k ≡ Some x → slice_get (map f xs) k ≡ Some (f x)
  place_image [] k x found = absurd (none-some x found)
  place_image (y ∷ xs) zero x found = ap (λ (z : X). Some (f z)) (same_Some y x found)
  place_image (y ∷ xs) (suc k) x found = place_image xs k x found
