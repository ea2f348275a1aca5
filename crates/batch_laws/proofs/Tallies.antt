-- Counts of tests that are compared at each item.
use Rattle.std.proofs.Common.{◌+◌, ℕ, suc, zero, ◌≡◌, ◌<◌, ◌≤◌, List, [], ◌∷◌, length, get_or, Bool, true, false, refl, sym, ap, ◌∙◌, inl, inr, arith}
use Rattle.std.specs.Prelude.{count_by, ◌⊎◌, ◌&&◌, ◌==◌, nat_lt}
use Rattle.std.proofs.lemmas.Bool.{false_from_ne_true, cases_Bool, cases_lt, and_parts, and_from, and_right, eqb-true, eq-eqb, ltb-true, lt-ltb, le-ltb}
use Rattle.seq_base.proofs.Points.{point}
use Rattle.batch_laws.proofs.Counts.{count-cons}

point_at_most : (a b : Bool) → (a ≡ true → b ≡ true) → point a ≤ point b
point_at_most false b implies = omega arith
point_at_most true b implies = let is : point b ≡ 1 = ap point (implies refl) in omega arith

-- a test that implies another at each item passes at most as often
pub count_within_at : {X : Type 0} (p q : X → Bool) (xs : List X) (d : X)
    → ((i : ℕ) → i < length xs → p (get_or xs i d) ≡ true → q (get_or xs i d) ≡ true) → count_by p xs ≤ count_by q xs
count_within_at p q [] d each = omega arith
count_within_at p q (x ∷ xs) d each =
    let rest : count_by p xs ≤ count_by q xs = count_within_at p q xs d (λ i inside. each (suc i) (omega arith)) in
    let one : point (p x) ≤ point (q x) = point_at_most (p x) (q x) (each 0 (omega arith)) in
    omega (arith, count-cons p x xs, count-cons q x xs)

pub count_less_at : {X : Type 0} (p q : X → Bool) (xs : List X) (d : X) → ((i : ℕ) → i < length xs → p (get_or xs i d) ≡ true → q (get_or xs i d) ≡ true)
    → (i : ℕ) → i < length xs → p (get_or xs i d) ≡ false → q (get_or xs i d) ≡ true → count_by p xs < count_by q xs
count_less_at p q [] d each i inside fails passes = absurd (omega arith)
count_less_at p q (x ∷ xs) d each zero inside fails passes =
    let rest : count_by p xs ≤ count_by q xs = count_within_at p q xs d (λ i short. each (suc i) (omega arith)) in
    let none : point (p x) ≡ 0 = ap point fails in
    let one : point (q x) ≡ 1 = ap point passes in
    omega (arith, count-cons p x xs, count-cons q x xs)
count_less_at p q (x ∷ xs) d each (suc i) inside fails passes =
    let rest : count_by p xs < count_by q xs = count_less_at p q xs d (λ k short. each (suc k) (omega arith)) i (omega arith) fails passes in
    let one : point (p x) ≤ point (q x) = point_at_most (p x) (q x) (each 0 (omega arith)) in
    omega (arith, count-cons p x xs, count-cons q x xs)

none_pass : (p : ℕ → Bool) (xs : List ℕ) → ((i : ℕ) → i < length xs → p (get_or xs i 0) ≡ false) → count_by p xs ≡ 0
none_pass p [] none = refl
none_pass p (x ∷ xs) none =
    let rest : count_by p xs ≡ 0 = none_pass p xs (λ i inside. none (suc i) (omega arith)) in
    let first : point (p x) ≡ 0 = ap point (none 0 (omega arith)) in
    omega (arith, count-cons p x xs)

-- where no two items pass, at most one does
one_passes : (p : ℕ → Bool) (xs : List ℕ) → ((i j : ℕ) → i < j → j < length xs → p (get_or xs i 0) ≡ true → p (get_or xs j 0) ≡ true → ⊥) → count_by p xs ≤ 1
one_passes p [] apart = omega arith
one_passes p (x ∷ xs) apart =
    elim (cases_Bool (p x)) [
      | inl is ↦
          let rest : count_by p xs ≡ 0 =
          none_pass p xs (λ i inside. false_from_ne_true (p (get_or xs i 0)) (λ also. apart 0 (suc i) (omega arith) (omega arith) is also)) in
          let first : point (p x) ≡ 1 = ap point is in
          omega (arith, count-cons p x xs)
      | inr isnt ↦
          let rest : count_by p xs ≤ 1 = one_passes p xs (λ i j below inside. apart (suc i) (suc j) (omega arith) (omega arith)) in
          let first : point (p x) ≡ 0 = ap point isnt in
          omega (arith, count-cons p x xs)
    ]

count_either : (r p q : ℕ → Bool) (xs : List ℕ) → ((x : ℕ) → r x ≡ true → (p x ≡ true) ⊎ (q x ≡ true)) → count_by r xs ≤ count_by p xs + count_by q xs
count_either r p q [] either = omega arith
count_either r p q (x ∷ xs) either =
    let rest : count_by r xs ≤ count_by p xs + count_by q xs = count_either r p q xs either in
    let one : point (r x) ≤ point (p x) + point (q x) = points (r x) (p x) (q x) (either x) in
    omega (arith, count-cons r x xs, count-cons p x xs, count-cons q x xs)
  where
    points : (a b c : Bool) → (a ≡ true → (b ≡ true) ⊎ (c ≡ true)) → point a ≤ point b + point c
    points false b c either = omega arith
    points true b c either =
        elim (either refl) [
          | inl is ↦ (let one : point b ≡ 1 = ap point is in omega arith)
          | inr is ↦ (let one : point c ≡ 1 = ap point is in omega arith)
        ]

-- items that pass with different numbers below c are at most c
pub few_below : (f : ℕ → ℕ) (p : ℕ → Bool) (xs : List ℕ)
    → ((i j : ℕ) → i < j → j < length xs → p (get_or xs i 0) ≡ true → p (get_or xs j 0) ≡ true → f (get_or xs i 0) ≡ f (get_or xs j 0) → ⊥)
    → (c : ℕ) → count_by (λ x. p x && nat_lt (f x) c) xs ≤ c
few_below f p xs apart zero =
    let none : count_by (λ x. p x && nat_lt (f x) 0) xs ≡ 0 =
    none_pass (λ x. p x && nat_lt (f x) 0) xs
    (λ i inside. and_right (p (get_or xs i 0)) (nat_lt (f (get_or xs i 0)) 0) (le-ltb (f (get_or xs i 0)) 0 (omega arith))) in
    omega arith
few_below f p xs apart (suc c) =
    let rest : count_by (λ x. p x && nat_lt (f x) c) xs ≤ c = few_below f p xs apart c in
    let last : count_by (λ x. p x && (f x == c)) xs ≤ 1 =
    one_passes (λ x. p x && (f x == c)) xs
    (λ i j below inside one other.
    let a = and_parts (p (get_or xs i 0)) (f (get_or xs i 0) == c) one in
    let b = and_parts (p (get_or xs j 0)) (f (get_or xs j 0) == c) other in
    apart i j below inside a.0 b.0 (eqb-true (f (get_or xs i 0)) c a.1 ∙ sym (eqb-true (f (get_or xs j 0)) c b.1))) in
    let both : count_by (λ x. p x && nat_lt (f x) (suc c)) xs ≤ count_by (λ x. p x && nat_lt (f x) c) xs + count_by (λ x. p x && (f x == c)) xs =
    count_either (λ x. p x && nat_lt (f x) (suc c)) (λ x. p x && nat_lt (f x) c) (λ x. p x && (f x == c)) xs
    (λ x is.
    let parts = and_parts (p x) (nat_lt (f x) (suc c)) is in
    let below : f x < suc c = ltb-true (f x) (suc c) parts.1 in
    elim (cases_lt (f x) c) [
      | inl less ↦ inl (and_from (p x) (nat_lt (f x) c) parts.0 (lt-ltb (f x) c less))
      | inr high ↦ inr (and_from (p x) (f x == c) parts.0 (eq-eqb (f x) c (omega arith)))
    ]) in
    omega arith

pub some_or_none : (p : ℕ → Bool) (xs : List ℕ)
    → ((i : ℕ) × (i < length xs) × (p (get_or xs i 0) ≡ true)) ⊎ ((i : ℕ) → i < length xs → p (get_or xs i 0) ≡ false)
some_or_none p [] = inr (λ i inside. absurd (omega arith))
some_or_none p (x ∷ xs) =
    elim (cases_Bool (p x)) [
      | inl is ↦ inl (0, omega arith, is)
      | inr isnt ↦ elim (some_or_none p xs) [
        | inl found ↦ inl (suc found.0, (let short : found.0 < length xs = found.1 in omega arith), found.2)
        | inr none ↦ inr (others isnt none)
      ]
    ]
  where
    others : p x ≡ false → ((i : ℕ) → i < length xs → p (get_or xs i 0) ≡ false) → (i : ℕ) → i < length (x ∷ xs) → p (get_or (x ∷ xs) i 0) ≡ false
    others isnt none zero inside = isnt
    others isnt none (suc i) inside = none i (omega arith)
