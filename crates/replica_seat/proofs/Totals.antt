-- Sums over lists, by which a list is compared with one that has the same items in another order.
use Rattle.std.proofs.Common.{◌≡◌, ◌≢◌, ℕ, suc, ◌+◌, ◌≤◌, List, [], ◌∷◌, ◌++◌, length, map, take, drop, filter, sum_by, Bool, true, false, cond, All, AllPairs, refl, sym, ap, ◌∙◌, inl, inr, arith}
use Rattle.std.specs.List.{flat_map, list_any}
use Rattle.std.proofs.lemmas.Bool.{cases_Bool, false≢true}
use Rattle.std.proofs.lemmas.List.{take-append-drop}
use Rattle.std.proofs.lemmas.List.Elements.{All-nil, All-cons, All-head, All-tail, All-weaker}
use Rattle.std.proofs.lemmas.List.Kept.{AllPairs-cons}
use Rattle.std.proofs.lemmas.List.Recursion.{is_sum_by}
use Rattle.seq_base.proofs.Points.{point}
use Rattle.replica_seat.specs.Feed.{around, place_among}

abbrev pub total : {X : Type 0} → (X → ℕ) → List X → ℕ
total f [] = 0
total f (x ∷ xs) = f x + total f xs

-- how many items pass a test
abbrev pub passing : {X : Type 0} → (X → Bool) → List X → ℕ
passing p xs = total (λ x. point (p x)) xs

pub total_is_sum : {X : Type 0} (f : X → ℕ) (xs : List X) → total f xs ≡ sum_by f xs
total_is_sum f xs = is_sum_by (total f) f refl (λ x xs. refl) xs

pub total_is_length : {X : Type 0} (xs : List X) → total (λ x. 1) xs ≡ length xs
total_is_length [] = refl
total_is_length (x ∷ xs) = omega (arith, total_is_length xs)

pub total-append : {X : Type 0} (f : X → ℕ) (xs ys : List X) → total f (xs ++ ys) ≡ total f xs + total f ys
total-append f [] ys = omega arith
total-append f (x ∷ xs) ys = omega (arith, total-append f xs ys)

pub total-map : {X Y : Type 0} (f : Y → ℕ) (g : X → Y) (xs : List X) → total f (map g xs) ≡ total (λ x. f (g x)) xs
total-map f g [] = refl
total-map f g (x ∷ xs) = omega (arith, total-map f g xs)

pub total-flat_map : {X Y : Type 0} (f : Y → ℕ) (g : X → List Y) (xs : List X) → total f (flat_map g xs) ≡ total (λ x. total f (g x)) xs
total-flat_map f g [] = refl
total-flat_map f g (x ∷ xs) = omega (arith, total-append f (g x) (flat_map g xs), total-flat_map f g xs)

pub total-filter : {X : Type 0} (f : X → ℕ) (p : X → Bool) (xs : List X) → total f (filter p xs) ≡ total (λ x. cond (p x) (f x) 0) xs
total-filter f p [] = refl
total-filter f p (x ∷ xs) = elim (cases_Bool (p x)) [
  | inl so ↦ rw so (omega (arith, total-filter f p xs))
  | inr not_so ↦ rw not_so (omega (arith, total-filter f p xs))
]

pub total_same : {X : Type 0} (f g : X → ℕ) → ((x : X) → f x ≡ g x) → (xs : List X) → total f xs ≡ total g xs
total_same f g same [] = refl
total_same f g same (x ∷ xs) = omega (arith, same x, total_same f g same xs)

pub total-le : {X : Type 0} (f g : X → ℕ) (xs : List X) → All (λ x. f x ≤ g x) xs → total f xs ≤ total g xs
total-le f g [] all = omega arith
total-le f g (x ∷ xs) all = omega (arith, All-head (λ x. f x ≤ g x) x xs all, total-le f g xs (All-tail (λ x. f x ≤ g x) x xs all))

pub total_none : {X : Type 0} (f : X → ℕ) (xs : List X) → All (λ x. f x ≡ 0) xs → total f xs ≡ 0
total_none f [] all = refl
total_none f (x ∷ xs) all = omega (arith, All-head (λ x. f x ≡ 0) x xs all, total_none f xs (All-tail (λ x. f x ≡ 0) x xs all))

-- sums of two together, and sums of sums either way around
total_both : {X : Type 0} (f g : X → ℕ) (xs : List X) → total (λ x. f x + g x) xs ≡ total f xs + total g xs
total_both f g [] = refl
total_both f g (x ∷ xs) = omega (arith, total_both f g xs)

total_zero : {X : Type 0} (xs : List X) → total (λ x. 0) xs ≡ 0
total_zero [] = refl
total_zero (x ∷ xs) = omega (arith, total_zero xs)

pub total_swap : {X Y : Type 0} (f : X → Y → ℕ) (xs : List X) (ys : List Y) → total (λ x. total (f x) ys) xs ≡ total (λ y. total (λ x. f x y) xs) ys
total_swap f [] ys = sym (total_zero ys)
total_swap f (x ∷ xs) ys = ap (λ (n : ℕ). total (f x) ys + n) (total_swap f xs ys) ∙ sym (total_both (f x) (λ y. total (λ x. f x y) xs) ys)

-- a sum is the same from another place on
pub total-around : {X : Type 0} (f : X → ℕ) (first : ℕ) (xs : List X) → total f (around first xs) ≡ total f xs
total-around f first xs =
    let at : ℕ = place_among first (length xs) in
    let parts : total f (take at xs) + total f (drop at xs) ≡ total f xs =
    sym (total-append f (take at xs) (drop at xs)) ∙ ap (total f) (take-append-drop at xs) in
    omega (arith, total-append f (drop at xs) (take at xs), parts)

-- what none passes
pub none_passes : {X : Type 0} (p : X → Bool) (xs : List X) → list_any p xs ≡ false → passing p xs ≡ 0
none_passes p [] none = refl
none_passes p (x ∷ xs) none = elim (cases_Bool (p x)) [
  | inl so ↦ let wrong = rw so at none in absurd (cc)
  | inr not_so ↦ rw not_so (omega (arith, none_passes p xs (rw not_so at none)))
]

pub all_fail : {X : Type 0} (p : X → Bool) (xs : List X) → passing p xs ≡ 0 → All (λ x. p x ≡ false) xs
all_fail p [] none = All-nil (λ x. p x ≡ false)
all_fail p (x ∷ xs) none = elim (cases_Bool (p x)) [
  | inl so ↦ let more : 1 + passing p xs ≡ 0 = rw so at none in absurd (omega (arith, more))
  | inr not_so ↦
      let rest : passing p xs ≡ 0 = (let more : 0 + passing p xs ≡ 0 = rw not_so at none in omega (arith, more)) in
      All-cons (λ x. p x ≡ false) x xs not_so (all_fail p xs rest)
]

-- where any two that pass would be at odds, one passes at most
pub once_passes : {X : Type 0} (p : X → Bool) (R : X → X → Type 0) → ((x y : X) → p x ≡ true → p y ≡ true → R x y → ⊥) → (xs : List X)
    → AllPairs R xs → passing p xs ≤ 1
once_passes p R odds [] pairs = omega arith
once_passes p R odds (x ∷ xs) pairs =
    let rest : passing p xs ≤ 1 = once_passes p R odds xs (λ i j d less inside. pairs (suc i) (suc j) d (omega (arith, less)) (omega (arith, inside))) in
    elim (cases_Bool (p x)) [
      | inl so ↦
          let first : All (R x) xs = λ k d inside. pairs 0 (suc k) d (omega arith) (omega (arith, inside)) in
          let none : passing p xs ≡ 0 = total_none (λ y. point (p y)) xs (All-weaker (R x) (λ y. point (p y) ≡ 0) (λ y apart. failing y so apart) xs first) in
          rw so (omega (arith, none))
      | inr not_so ↦ rw not_so (omega (arith, rest))
    ]
  where
    failing : (y : _) → p x ≡ true → R x y → point (p y) ≡ 0
    failing y so apart = elim (cases_Bool (p y)) [
      | inl also ↦ absurd (odds x y so also apart)
      | inr not_so ↦ ap point not_so
    ]

-- in a list of distinct items each stands once
pub distinct_from_counts : {X : Type 0} (same : X → X → Bool) → ((x : X) → same x x ≡ true) → (xs : List X)
    → ((t : X) → passing (λ x. same x t) xs ≤ 1) → AllPairs (λ x y. x ≢ y) xs
distinct_from_counts same itself [] once = λ i j d less inside. absurd (omega arith)
distinct_from_counts same itself (x ∷ xs) once =
    AllPairs-cons (λ y z. y ≢ z) x xs
    (All-weaker (λ y. same y x ≡ false) (λ y. x ≢ y) (λ y other is. false≢true (sym other ∙ ap (λ z. same z x) (sym is) ∙ itself x)) xs
    (all_fail (λ y. same y x) xs none))
    (distinct_from_counts same itself xs (λ t. omega (arith, once t)))
  where
    none : passing (λ y. same y x) xs ≡ 0
    none = (let first : point (same x x) ≡ 1 = ap point (itself x) in omega (arith, once x, first))
