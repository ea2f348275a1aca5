-- A relation between the elements of two lists, index by index.
use Rattle.std.proofs.Common.{◌≡◌, ℕ, zero, suc, ◌<◌, List, [], ◌∷◌, length, get_or, refl, ap, arith}
use Rattle.std.specs.Prelude.{slice_set}
use Rattle.std.specs.List.{AllZip}

module _ {A B : Type 0} (R : A → B → Type 0) where
  pub zip_length : (xs : List A) (ys : List B) → AllZip R xs ys → length xs ≡ length ys
  zip_length [] [] h = refl
  zip_length [] (y ∷ ys) h = absurd h
  zip_length (x ∷ xs) [] h = absurd h
  zip_length (x ∷ xs) (y ∷ ys) h = ap suc (zip_length xs ys h.1)

  pub zip_at : (xs : List A) (ys : List B) (i : ℕ) (d : A) (e : B) → AllZip R xs ys → i < length ys → R (get_or xs i d) (get_or ys i e)
  zip_at [] [] i d e h lt = absurd (omega arith)
  zip_at [] (y ∷ ys) i d e h lt = absurd h
  zip_at (x ∷ xs) [] i d e h lt = absurd h
  zip_at (x ∷ xs) (y ∷ ys) zero d e h lt = h.0
  zip_at (x ∷ xs) (y ∷ ys) (suc i) d e h lt = zip_at xs ys i d e h.1 (omega arith)

  pub zip_set : (xs : List A) (ys : List B) (i : ℕ) (d : A) (y : B) → AllZip R xs ys → R (get_or xs i d) y → AllZip R xs (slice_set ys i y)
  zip_set [] [] i d y h r = h
  zip_set [] (z ∷ ys) i d y h r = absurd h
  zip_set (x ∷ xs) [] i d y h r = absurd h
  zip_set (x ∷ xs) (z ∷ ys) zero d y h r = (r, h.1)
  zip_set (x ∷ xs) (z ∷ ys) (suc i) d y h r = (h.0, zip_set xs ys i d y h.1 r)
