-- The first element of a list that passes a test, and the others.
use Rattle.std.proofs.Common.{◌≡◌, ℕ, zero, suc, ◌+◌, ◌<◌, ◌≤◌, List, [], ◌∷◌, length, Bool, true, false, cond, Some, None, nat_lt, refl, sym, ap, ◌∙◌, inl, inr, arith, ◌||◌}
use Rattle.std.specs.Prelude.{not, find, insert, slice_index_or, unwrap_or}
use Rattle.std.specs.List.{position, position_or_len, remove, list_any}
use Rattle.std.specs.Option.{option_map_or}
use Rattle.std.proofs.lemmas.Bool.{cases_Bool, lt-ltb, le-ltb, ltb-true, ltb-false}

-- without the first that passes
abbrev pub without_first : {X : Type 0} → (X → Bool) → List X → List X
without_first p [] = []
without_first p (x ∷ xs) = cond (p x) xs (x ∷ without_first p xs)

less_suc : (k n : ℕ) → nat_lt (suc k) (suc n) ≡ nat_lt k n
less_suc k n = elim (cases_Bool (nat_lt k n)) [
  | inl is ↦ lt-ltb (suc k) (suc n) (let below : k < n = ltb-true k n is in omega arith) ∙ sym is
  | inr not ↦ le-ltb (suc k) (suc n) (let above : n ≤ k = ltb-false k n not in omega arith) ∙ sym not
]

one_more : (k : ℕ) → 1 + k ≡ suc k
one_more k = omega arith

less_zero : (n : ℕ) → nat_lt 0 (suc n) ≡ true
less_zero n = lt-ltb 0 (suc n) (omega arith)

pub first_at : {X : Type 0} (p : X → Bool) (xs : List X) (d : X) → option_map_or (λ at. slice_index_or xs at d) (position p xs) d ≡ unwrap_or (find p xs) d
first_at p [] d = refl
first_at {X} p (x ∷ xs) d = by (p x) (first_at p xs d)
  where
    step : (t : Bool) → option_map_or (λ at. slice_index_or (x ∷ xs) at d) (cond t (Some (suc (position_or_len p xs))) None) d
        ≡ option_map_or (λ at. slice_index_or xs at d) (cond t (Some (position_or_len p xs)) None) d
    step true = refl
    step false = refl

    by : (t : Bool) → option_map_or (λ at. slice_index_or xs at d) (position p xs) d ≡ unwrap_or (find p xs) d
        → option_map_or (λ at. slice_index_or (x ∷ xs) at d)
        (cond (nat_lt (cond (not t) (1 + position_or_len p xs) 0) (suc (length xs))) (Some (cond (not t) (1 + position_or_len p xs) 0)) None) d
        ≡ unwrap_or (cond t (Some x) (find p xs)) d
    by true same = rw (less_zero (length xs)) refl
    by false same = rw (one_more (position_or_len p xs), less_suc (position_or_len p xs) (length xs)) (step (nat_lt (position_or_len p xs) (length xs)) ∙ same)

pub others_at : {X : Type 0} (p : X → Bool) (xs : List X) → option_map_or (λ at. remove xs at) (position p xs) xs ≡ without_first p xs
others_at p [] = refl
others_at {X} p (x ∷ xs) = by (p x) (others_at p xs)
  where
    step : (t : Bool) → option_map_or (λ at. remove (x ∷ xs) at) (cond t (Some (suc (position_or_len p xs))) None) (x ∷ xs)
        ≡ x ∷ option_map_or (λ at. remove xs at) (cond t (Some (position_or_len p xs)) None) xs
    step true = refl
    step false = refl

    by : (t : Bool) → option_map_or (λ at. remove xs at) (position p xs) xs ≡ without_first p xs
        → option_map_or (λ at. remove (x ∷ xs) at)
        (cond (nat_lt (cond (not t) (1 + position_or_len p xs) 0) (suc (length xs))) (Some (cond (not t) (1 + position_or_len p xs) 0)) None) (x ∷ xs)
        ≡ cond t xs (x ∷ without_first p xs)
    by true same = rw (less_zero (length xs)) refl
    by false same = rw (one_more (position_or_len p xs), less_suc (position_or_len p xs) (length xs))
        (step (nat_lt (position_or_len p xs) (length xs)) ∙ ap (λ (ys : List X). x ∷ ys) same)

-- a test that no element with the other property passes finds the same as before
pub find_others : {X : Type 0} (p q : X → Bool) (xs : List X) → ((x : X) → p x ≡ true → q x ≡ false) → find q (without_first p xs) ≡ find q xs
find_others p q [] apart = refl
find_others {X} p q (x ∷ xs) apart = by (p x) refl (find_others p q xs apart)
  where
    by : (t : Bool) → p x ≡ t → find q (without_first p xs) ≡ find q xs → find q (cond t xs (x ∷ without_first p xs)) ≡ cond (q x) (Some x) (find q xs)
    by true is same = rw (apart x is) refl
    by false is same = ap (cond (q x) (Some x)) same

-- with an element inserted anywhere
pub any_inserted : {X : Type 0} (p : X → Bool) (xs : List X) (i : ℕ) (x : X) → list_any p (insert xs i x) ≡ (p x || list_any p xs)
any_inserted p xs zero x = refl
any_inserted p [] (suc i) x = refl
any_inserted {X} p (y ∷ xs) (suc i) x = ap (λ (t : Bool). p y || t) (any_inserted p xs i x) ∙ turn (p y) (p x)
  where
    turn : (a b : Bool) → (a || (b || list_any p xs)) ≡ (b || (a || list_any p xs))
    turn true true = refl
    turn true false = refl
    turn false b = refl
