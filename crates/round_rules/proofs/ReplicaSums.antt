-- What is counted over all replicas, and lists of events in two parts.
use Rattle.std.proofs.Common.{◌≡◌, ℕ, zero, suc, ◌+◌, ◌<◌, ◌≤◌, ◌==◌, List, [], ◌∷◌, ◌++◌, refl, ap, ◌∙◌, max, arith, inl, inr, if◌then◌else◌}
use Rattle.std.specs.List.{range_with_len, sum_by}
use Rattle.std.proofs.lemmas.Bool.{cases_Bool}
use Rattle.std.proofs.lemmas.Bool.Decides.{nat_tests}
use Rattle.std.proofs.lemmas.Grind.{flat_map-append}
use Rattle.std.proofs.lemmas.List.Sums.{sum_by-cons}
use Rattle.count_set.specs.Sets.{is_among}
use Rattle.node_core.specs.declared.event.Event.{Event}
use Rattle.round_rules.specs.Journals.{carried_by, deliveries, known_in, ticks_in}
use Rattle.round_rules.specs.Moments.{greatest}

-- ---- over all replicas

pub sum_same : (f g : ℕ → ℕ) (a n : ℕ) → ((k : ℕ) → k < a + n → f k ≡ g k) → sum_by f (range_with_len a n) ≡ sum_by g (range_with_len a n)
sum_same f g a zero same = refl
sum_same f g a (suc n) same =
    let one : f a ≡ g a = same a (omega arith) in
    let rest : sum_by f (range_with_len (a + 1) n) ≡ sum_by g (range_with_len (a + 1) n) = sum_same f g (a + 1) n (λ k lt. same k (omega (arith, lt))) in
    let left = sum_by-cons f a (range_with_len (a + 1) n) in
    let right = sum_by-cons g a (range_with_len (a + 1) n) in
    omega (arith, one, rest, left, right)

pub sum_less : (f g : ℕ → ℕ) (a n : ℕ) → ((k : ℕ) → k < a + n → f k ≤ g k) → sum_by f (range_with_len a n) ≤ sum_by g (range_with_len a n)
sum_less f g a zero less = omega arith
sum_less f g a (suc n) less =
    let one : f a ≤ g a = less a (omega arith) in
    let rest : sum_by f (range_with_len (a + 1) n) ≤ sum_by g (range_with_len (a + 1) n) = sum_less f g (a + 1) n (λ k lt. less k (omega (arith, lt))) in
    let left = sum_by-cons f a (range_with_len (a + 1) n) in
    let right = sum_by-cons g a (range_with_len (a + 1) n) in
    omega (arith, one, rest, left, right)

pub sum_has : (f : ℕ → ℕ) (a n k : ℕ) → a ≤ k → k < a + n → f k ≤ sum_by f (range_with_len a n)
sum_has f a zero k from below = absurd (omega (arith, from, below))
sum_has f a (suc n) k from below =
    let whole = sum_by-cons f a (range_with_len (a + 1) n) in
    elim (cases_Bool (a == k)) [
      | inl here ↦ (
          let same : k ≡ a = grind (arith, nat_tests) in
          let one : f k ≡ f a = ap f same in
          omega (arith, one, whole))
      | inr later ↦ (
          let above : a + 1 ≤ k = grind (arith, nat_tests) in
          let rest = sum_has f (a + 1) n k above (omega (arith, below)) in
          omega (arith, rest, whole))
    ]

pub greatest_same : (faulty : List ℕ) (v w : ℕ → ℕ) (floor a n : ℕ) → ((k : ℕ) → k < a + n → v k ≡ w k)
    → greatest faulty v floor (range_with_len a n) ≡ greatest faulty w floor (range_with_len a n)
greatest_same faulty v w floor a zero same = refl
greatest_same faulty v w floor a (suc n) same =
    greatest_same faulty v w (if is_among faulty a then floor else max (v a) floor) (a + 1) n (λ k lt. same k (omega (arith, lt)))
    ∙ ap (λ (x : ℕ). greatest faulty w (if is_among faulty a then floor else max x floor) (range_with_len (a + 1) n)) (same a (omega arith))

-- ---- events in two parts

pub deliveries-append : (xs ys : List Event) → deliveries (xs ++ ys) ≡ deliveries xs + deliveries ys
deliveries-append [] ys = omega arith
deliveries-append (x ∷ xs) ys = (let rest = deliveries-append xs ys in omega (arith, rest))

pub ticks-append : (xs ys : List Event) → ticks_in (xs ++ ys) ≡ ticks_in xs + ticks_in ys
ticks-append [] ys = omega arith
ticks-append (x ∷ xs) ys = (let rest = ticks-append xs ys in omega (arith, rest))

pub known-append : (xs ys : List Event) → known_in (xs ++ ys) ≡ known_in xs ++ known_in ys
known-append xs ys = flat_map-append carried_by xs ys
