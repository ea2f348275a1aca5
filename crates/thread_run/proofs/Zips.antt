-- More on lists, and on a relation between the elements of two lists, place by place.
use Rattle.std.proofs.Common.{◌≡◌, ℕ, zero, suc, ◌<◌, List, [], ◌∷◌, length, get_or, refl, ap, subst, arith}
use Rattle.std.specs.Prelude.{All, Some, slice_get, slice_set}
use Rattle.std.proofs.lemmas.Option.{same_Some, slice_get-get_or}
use Rattle.std.specs.List.{AllZip}

module _ {A B : Type 0} (R : A → B → Type 0) where
  -- what holds at each place of two lists
  pub zip_from : (xs : List A) (ys : List B) → length xs ≡ length ys
      → ((i : ℕ) (d : A) (e : B) → i < length xs → R (get_or xs i d) (get_or ys i e)) → AllZip R xs ys
  zip_from [] [] l h = tt
  zip_from [] (y ∷ ys) l h = absurd (omega (arith, l))
  zip_from (x ∷ xs) [] l h = absurd (omega (arith, l))
  zip_from (x ∷ xs) (y ∷ ys) l h = (h 0 x y (omega arith), zip_from xs ys (omega (arith, l)) (λ i d e lt. h (suc i) d e (omega (arith, lt))))

-- the same of two lists of one kind
pub zip_of : {A : Type 0} (R : A → A → Type 0) (xs ys : List A) → length xs ≡ length ys
    → ((i : ℕ) (d : A) → i < length xs → R (get_or xs i d) (get_or ys i d)) → AllZip R xs ys
zip_of R [] [] l h = tt
zip_of R [] (y ∷ ys) l h = absurd (omega (arith, l))
zip_of R (x ∷ xs) [] l h = absurd (omega (arith, l))
zip_of R (x ∷ xs) (y ∷ ys) l h = (h 0 x (omega arith), zip_of R xs ys (omega (arith, l)) (λ i d lt. h (suc i) d (omega (arith, lt))))

module _ {A B : Type 0} (R : A → B → Type 0) where
  -- the element of the other list at the same place
  pub zip_there : (xs : List A) (ys : List B) (i : ℕ) (x : A) → AllZip R xs ys → slice_get xs i ≡ Some x → (y : B) × (slice_get ys i ≡ Some y) × R x y
  zip_there [] ys i x z is = absurd (cc (is))
  zip_there (v ∷ xs) [] i x z is = absurd z
  zip_there (v ∷ xs) (w ∷ ys) zero x z is = (w, refl, subst (λ a. R a w) (same_Some v x is) z.0)
  zip_there (v ∷ xs) (w ∷ ys) (suc i) x z is = zip_there xs ys i x z.1 is

  pub zip_back : (xs : List A) (ys : List B) (i : ℕ) (y : B) → AllZip R xs ys → slice_get ys i ≡ Some y → (x : A) × (slice_get xs i ≡ Some x) × R x y
  zip_back xs [] i y z is = absurd (cc (is))
  zip_back [] (w ∷ ys) i y z is = absurd z
  zip_back (v ∷ xs) (w ∷ ys) zero y z is = (v, refl, subst (R v) (same_Some w y is) z.0)
  zip_back (v ∷ xs) (w ∷ ys) (suc i) y z is = zip_back xs ys i y z.1 is

  pub zip_map : (Q : A → B → Type 0) → ((x : A) (y : B) → R x y → Q x y) → (xs : List A) (ys : List B) → AllZip R xs ys → AllZip Q xs ys
  zip_map Q f [] [] z = tt
  zip_map Q f [] (y ∷ ys) z = absurd z
  zip_map Q f (x ∷ xs) [] z = absurd z
  zip_map Q f (x ∷ xs) (y ∷ ys) z = (f x y z.0, zip_map Q f xs ys z.1)

pub all_places : {X : Type 0} (P : X → Type 0) (xs : List X) → ((k : ℕ) (x : X) → slice_get xs k ≡ Some x → P x) → All P xs
all_places P xs each = λ k d lt. each k (get_or xs k d) (slice_get-get_or xs k d lt)

-- functions with the same values are one
pub same_at_each : {A B : Type 0} (f g : A → B) → ((x : A) → f x ≡ g x) → f ≡ g
same_at_each f g h = λ j x. h x j

-- ---- a list of which one element was exchanged

pub or_set : {X : Type 0} (xs : List X) (k : ℕ) (x d : X) → k < length xs → get_or (slice_set xs k x) k d ≡ x
or_set [] k x d lt = absurd (omega (arith, lt))
or_set (y ∷ xs) zero x d lt = refl
or_set (y ∷ xs) (suc k) x d lt = or_set xs k x d (omega (arith, lt))

pub or_other : {X : Type 0} (xs : List X) (k j : ℕ) (x d : X) → (k ≡ j → ⊥) → get_or (slice_set xs k x) j d ≡ get_or xs j d
or_other [] k j x d other = refl
or_other (y ∷ xs) zero zero x d other = absurd (other refl)
or_other (y ∷ xs) zero (suc j) x d other = refl
or_other (y ∷ xs) (suc k) zero x d other = refl
or_other (y ∷ xs) (suc k) (suc j) x d other = or_other xs k j x d (λ e. other (ap suc e))

-- ---- a relation that each element has to itself, and that goes on

module _ {X : Type 0} (R : X → X → Type 0) (self : (x : X) → R x x) where
  pub zip_self : (xs : List X) → AllZip R xs xs
  zip_self [] = tt
  zip_self (x ∷ xs) = (self x, zip_self xs)

  -- one element is exchanged
  pub zip_one : (xs : List X) (i : ℕ) (d x : X) → R (get_or xs i d) x → AllZip R xs (slice_set xs i x)
  zip_one [] i d x r = tt
  zip_one (y ∷ xs) zero d x r = (r, zip_self xs)
  zip_one (y ∷ xs) (suc i) d x r = (self y, zip_one xs i d x r)

module _ {X : Type 0} (R : X → X → Type 0) (on : (x y z : X) → R x y → R y z → R x z) where
  pub zip_on : (xs ys zs : List X) → AllZip R xs ys → AllZip R ys zs → AllZip R xs zs
  zip_on [] [] [] a b = tt
  zip_on [] [] (z ∷ zs) a b = absurd b
  zip_on [] (y ∷ ys) zs a b = absurd a
  zip_on (x ∷ xs) [] zs a b = absurd a
  zip_on (x ∷ xs) (y ∷ ys) [] a b = absurd b
  zip_on (x ∷ xs) (y ∷ ys) (z ∷ zs) a b = (on x y z a.0 b.0, zip_on xs ys zs a.1 b.1)
