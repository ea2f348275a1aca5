-- Counts over replicas, and a number in the middle of the numbers of a set of replicas.
use Rattle.std.proofs.Common.{◌≡◌, ℕ, zero, suc, ◌+◌, ◌<◌, ◌≤◌, List, [], ◌∷◌, length, get_or, Bool, true, false, not, ◌&&◌, ◌||◌, leb, refl, ap, inl, inr, arith}
use Rattle.std.specs.Prelude.{count_by}
use Rattle.std.proofs.lemmas.Bool.{cases_Bool, cases_lt, and_parts, and_from, not-true, leb-true, leb-false, le-leb, lt-leb, both_ways, false_from_ne_true}
use Rattle.std.proofs.lemmas.List.Sums.{sum_by-cons}
use Rattle.chain_laws.proofs.Members.{size_within}
use Rattle.seq_base.proofs.Points.{point}
use Rattle.count_set.specs.Sets.{size_of}
use Rattle.intake_laws.specs.Middle.{IsMiddle}

points_or : (a b : Bool) → point (a || b) ≤ point a + point b
points_or true true = omega arith
points_or true false = omega arith
points_or false true = omega arith
points_or false false = omega arith

pub size_or : (n : ℕ) (xs ys : ℕ → Bool) → size_of n (λ r. xs r || ys r) ≤ size_of n xs + size_of n ys
size_or zero xs ys = omega arith
size_or (suc n) xs ys = omega (arith, points_or (xs n) (ys n), size_or n xs ys)

points_parts : (a b : Bool) → point (a && b) + point (a && not b) ≡ point a
points_parts true true = refl
points_parts true false = refl
points_parts false true = refl
points_parts false false = refl

-- the members that pass a test, and those that don't
pub size_parts : (n : ℕ) (xs ys : ℕ → Bool) → size_of n (λ r. xs r && ys r) + size_of n (λ r. xs r && not (ys r)) ≡ size_of n xs
size_parts zero xs ys = refl
size_parts (suc n) xs ys = omega (arith, points_parts (xs n) (ys n), size_parts n xs ys)

pub size_none : (n : ℕ) (xs : ℕ → Bool) → ((r : ℕ) → r < n → xs r ≡ true → ⊥) → size_of n xs ≡ 0
size_none zero xs none = refl
size_none (suc n) xs none =
    let absent : point (xs n) ≡ 0 = ap point (false_from_ne_true (xs n) (none n (omega arith))) in
    omega (arith, absent, size_none n xs (λ r below. none r (omega arith)))

-- more replicas, as many members or more
pub size_longer : (n m : ℕ) (xs : ℕ → Bool) → n ≤ m → size_of n xs ≤ size_of m xs
size_longer n zero xs within = let none : n ≡ 0 = omega arith in rw none (omega arith)
size_longer n (suc m) xs within =
    elim (cases_lt m n) [
      | inl all ↦ let same : n ≡ suc m = omega arith in rw same (omega arith)
      | inr less ↦ omega (arith, size_longer n m xs less)
    ]

-- numbers that are no members do not count
pub size_beyond : (n m : ℕ) (xs : ℕ → Bool) → n ≤ m → ((r : ℕ) → n ≤ r → r < m → xs r ≡ true → ⊥) → size_of m xs ≤ size_of n xs
size_beyond n zero xs within absent = omega arith
size_beyond n (suc m) xs within absent =
    elim (cases_lt m n) [
      | inl all ↦ let same : n ≡ suc m = omega arith in rw same (omega arith)
      | inr less ↦
          let none : point (xs m) ≡ 0 = ap point (false_from_ne_true (xs m) (absent m less (omega arith))) in
          omega (arith, none, size_beyond n m xs less (λ r from below. absent r from (omega arith)))
    ]

-- the first replica apart
pub size_front : (n : ℕ) (xs : ℕ → Bool) → size_of (suc n) xs ≡ point (xs 0) + size_of n (λ r. xs (suc r))
size_front zero xs = refl
size_front (suc n) xs = omega (arith, size_front n xs)

-- a count over a list is one over its places
pub count_as_size : (p : ℕ → Bool) (xs : List ℕ) (d : ℕ) → count_by p xs ≡ size_of (length xs) (λ r. p (get_or xs r d))
count_as_size p [] d = refl
count_as_size p (x ∷ xs) d =
    omega (arith, sum_by-cons (λ (y : ℕ). point (p y)) x xs, count_as_size p xs d, size_front (length xs) (λ r. p (get_or (x ∷ xs) r d)))

-- ---- a number in the middle

-- the last number at which a test holds
last_true : (p : ℕ → Bool) (bound : ℕ) → p 0 ≡ true → p bound ≡ false → (a : ℕ) × (p a ≡ true) × (p (suc a) ≡ false)
last_true p zero first last = absurd (both_ways (p 0) last first)
last_true p (suc bound) first last =
    elim (cases_Bool (p bound)) [
      | inl here ↦ (bound, here, last)
      | inr before ↦ last_true p bound first before
    ]

-- a number above all
above_all : (n : ℕ) (stamp : ℕ → ℕ) → (bound : ℕ) × ((r : ℕ) → r < n → stamp r < bound)
above_all zero stamp = (0, λ r below. absurd (omega arith))
above_all (suc n) stamp =
    let rest = above_all n stamp in (
      suc (stamp n + rest.0),
      λ r below. elim (cases_lt r n) [
        | inl less ↦ omega (arith, rest.1 r less)
        | inr last ↦ let same : r ≡ n = omega arith in rw same (omega arith)
      ],
    )

pub middle : (n f : ℕ) (set : ℕ → Bool) (stamp : ℕ → ℕ) → f < size_of n set → (a : ℕ) × IsMiddle n f set stamp a
middle n f set stamp enough =
    let upper : ℕ → ℕ = λ (a : ℕ). size_of n (λ r. set r && leb a (stamp r)) in
    let bound = above_all n stamp in
    let first : leb (f + 1) (size_of n (λ r. set r && leb 0 (stamp r))) ≡ true =
    le-leb (f + 1) _ (omega (
      arith,
      enough,
      size_within n set (λ r. set r && leb 0 (stamp r))
          (λ r below member. and_from (set r) (leb 0 (stamp r)) member (le-leb 0 (stamp r) (omega arith))),
    )) in
    let none : size_of n (λ r. set r && leb bound.0 (stamp r)) ≡ 0 =
    size_none n (λ r. set r && leb bound.0 (stamp r))
    (λ r below member. let less = bound.1 r below in let more = leb-true bound.0 (stamp r)
    (and_parts (set r) (leb bound.0 (stamp r)) member).1 in omega (arith, less, more)) in
    let last : leb (f + 1) (size_of n (λ r. set r && leb bound.0 (stamp r))) ≡ false = lt-leb (f + 1) _ (omega (arith, none)) in
    let found = last_true (λ a. leb (f + 1) (size_of n (λ r. set r && leb a (stamp r)))) bound.0 first last in
    let few : size_of n (λ r. set r && leb (suc found.0) (stamp r)) < f + 1 = leb-false (f + 1) _ found.2 in
    let parts = size_parts n set (λ r. leb (suc found.0) (stamp r)) in
    let within : size_of n (λ r. set r && not (leb (suc found.0) (stamp r))) ≤ size_of n (λ r. set r && leb (stamp r) found.0) =
    size_within n (λ r. set r && not (leb (suc found.0) (stamp r))) (λ r. set r && leb (stamp r) found.0)
    (λ r below member.
    let both = and_parts (set r) (not (leb (suc found.0) (stamp r))) member in
    let less : stamp r < suc found.0 = leb-false (suc found.0) (stamp r) (not-true (leb (suc found.0) (stamp r)) both.1) in
    and_from (set r) (leb (stamp r) found.0) both.0 (le-leb (stamp r) found.0 (omega (arith, less)))) in
    (found.0, record { upper = leb-true (f + 1) _ found.1; lower = omega (arith, few, parts, within) })
