-- Places in lists.
use Rattle.std.proofs.Common.{◌≡◌, ℕ, zero, suc, ◌+◌, ◌⊎◌, inl, inr, length, List, [], ◌∷◌, ◌++◌, Some, refl, ap, arith}
use Rattle.std.specs.List.{range_with_len}
use Rattle.std.specs.Prelude.{Result, Ok, Err, IfOk, OnOk, slice_get, slice_set}

-- what is at a place of a list with one more is there before, or is the one more
pub pushed : {X : Type 0} (xs : List X) (x y : X) (p : ℕ) → slice_get (xs ++ x ∷ []) p ≡ Some y → (slice_get xs p ≡ Some y) ⊎ ((p ≡ length xs) × (x ≡ y))
pushed [] x y zero has = inr (refl, cc)
pushed [] x y (suc p) has = absurd (cc)
pushed (z ∷ xs) x y zero has = inl has
pushed (z ∷ xs) x y (suc p) has = elim (pushed xs x y p has) [
  | inl before ↦ inl before
  | inr last ↦ inr (omega (arith, last.0), last.1)
]

-- the numbers from a on, by their place
pub range_at : (a n at x : ℕ) → slice_get (range_with_len a n) at ≡ Some x → x ≡ a + at
range_at a zero at x has = cc
range_at a (suc n) zero x has = (let is : a ≡ x = cc in omega (arith, is))
range_at a (suc n) (suc at) x has = (let e = range_at (a + 1) n at x has in omega (arith, e))

-- an element put where it is changes nothing
pub set_same : {X : Type 0} (xs : List X) (at : ℕ) (x : X) → slice_get xs at ≡ Some x → slice_set xs at x ≡ xs
set_same [] at x has = refl
set_same (y ∷ xs) zero x has = (let is : x ≡ y = cc in ap (λ (z : _). z ∷ xs) is)
set_same (y ∷ xs) (suc at) x has = ap (λ (t : List _). y ∷ t) (set_same xs at x has)

-- ---- results

pub if_both : {X E : Type 0} (result : Result X E) (P : X → Type 0) (Q : Type 0) (R : X → Type 0) → ((x : X) → P x → Q → R x)
    → IfOk result P → OnOk result Q → IfOk result R
if_both (Ok x) P Q R both p q = both x p q
if_both (Err e) P Q R both p q = tt

pub on_ok : {X E : Type 0} (result : Result X E) (P : Type 0) → P → OnOk result P
on_ok (Ok x) P p = p
on_ok (Err e) P p = tt
