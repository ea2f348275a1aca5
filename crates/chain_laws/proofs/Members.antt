-- The number of members of sets, and of items with distinct replicas that pass a test.
use Rattle.std.proofs.Common.{◌≡◌, ℕ, zero, suc, ◌+◌, ◌<◌, ◌≤◌, List, [], ◌∷◌, length, map, Bool, true, false, not, ◌&&◌, refl, ap, subst, inl, inr, arith}
use Rattle.std.specs.Prelude.{All, ◌≢◌, count_by, filter}
use Rattle.std.specs.List.{AllPairs}
use Rattle.std.proofs.lemmas.Bool.{cases_Bool}
use Rattle.std.proofs.lemmas.List.{get_or-map, length-map}
use Rattle.std.proofs.lemmas.List.Elements.{All-map, All-filter, All-contains, filter_passes}
use Rattle.std.proofs.lemmas.List.Kept.{AllPairs-cons}
use Rattle.seq_base.proofs.Points.{point}
use Rattle.batch_laws.proofs.Counts.{count-cons}
use Rattle.count_set.specs.Sets.{size_of, is_among, AreReplicas}
use Rattle.count_set.proofs.Counts.{Contains-from_among}
use Rattle.count_set.proofs.Pairs.{AllPairs-head, AllPairs-tail}

point_within : (a b : Bool) → (a ≡ true → b ≡ true) → point a ≤ point b
point_within true b within = omega (arith, ap point (within refl))
point_within false b within = omega arith

-- a set whose members below n are in another has at most as many of them
pub size_within : (n : ℕ) (xs ys : ℕ → Bool) → ((r : ℕ) → r < n → xs r ≡ true → ys r ≡ true) → size_of n xs ≤ size_of n ys
size_within zero xs ys within = omega arith
size_within (suc n) xs ys within =
    omega (arith, size_within n xs ys (λ r below. within r (omega (arith, below))), point_within (xs n) (ys n) (within n (omega arith)))

pub points_not : (a : Bool) → point (not a) + point a ≡ 1
points_not true = refl
points_not false = refl

-- those that are no members are counted by the complement
pub size_not : (n : ℕ) (set : ℕ → Bool) → size_of n (λ r. not (set r)) + size_of n set ≡ n
size_not zero set = refl
size_not (suc n) set = omega (arith, size_not n set, points_not (set n))

points_apart : (a b : Bool) → point (not a && b) + point a ≤ 1
points_apart true b = omega arith
points_apart false true = omega arith
points_apart false false = omega arith

-- sets without a common member have at most n together
pub size_apart : (n : ℕ) (out set : ℕ → Bool) → size_of n (λ r. not (out r) && set r) + size_of n out ≤ n
size_apart zero out set = omega arith
size_apart (suc n) out set = omega (arith, size_apart n out set, points_apart (out n) (set n))

-- what holds for the images holds for the items
all_of_map : {X Y : Type 0} (P : Y → Type 0) (f : X → Y) (xs : List X) → All P (map f xs) → All (λ x. P (f x)) xs
all_of_map P f xs all k d inside = subst P (get_or-map f xs k d (f d) inside) (all k (f d) (omega (arith, inside, length-map xs f)))

-- a list of distinct replicas names as many as it is long
abbrev pub DistinctAreCounted : Type 0
DistinctAreCounted = (n : ℕ) (xs : List ℕ) → AreReplicas n xs → size_of n (is_among xs) ≡ length xs

-- Where each item that passes has a member as its replica, and the replicas are distinct, at most as many items pass
-- as there are members.
module _ {X Y : Type 0} (replica : X → ℕ) (part : X → Y) (test : Y → Bool) where
  abbrev passing : List X → List X
  passing xs = filter (λ x. test (part x)) xs

  -- those that pass have distinct replicas too
  distinct_passing : (xs : List X) → AllPairs (λ a b. a ≢ b) (map replica xs) → AllPairs (λ a b. a ≢ b) (map replica (passing xs))
  distinct_passing [] distinct = λ i j d less inside. absurd (omega (arith, inside))
  distinct_passing (x ∷ xs) distinct =
      let rest = distinct_passing xs (AllPairs-tail (λ (a b : ℕ). a ≢ b) (replica x) (map replica xs) distinct) in
      let apart = AllPairs-head (λ (a b : ℕ). a ≢ b) (replica x) (map replica xs) distinct in
      elim (cases_Bool (test (part x))) [
        | inl passes ↦ rw passes (AllPairs-cons (λ (a b : ℕ). a ≢ b) (replica x) (map replica (passing xs))
            (All-map (λ (r : ℕ). replica x ≢ r) replica (passing xs)
            (All-filter (λ y. test (part y)) (λ y. replica x ≢ replica y) xs (all_of_map (λ (r : ℕ). replica x ≢ r) replica xs apart))) rest)
        | inr fails ↦ rw fails rest
      ]

  replicas_passing : (n : ℕ) (xs : List X) → AreReplicas n (map replica xs) → AreReplicas n (map replica (passing xs))
  replicas_passing n xs replicas = record {
    distinct = distinct_passing xs replicas.distinct;
    below = All-map (λ (r : ℕ). r < n) replica (passing xs)
        (All-filter (λ x. test (part x)) (λ x. replica x < n) xs (all_of_map (λ (r : ℕ). r < n) replica xs replicas.below));
  }

  count_passing : (xs : List X) → count_by test (map part xs) ≡ length (passing xs)
  count_passing [] = refl
  count_passing (x ∷ xs) =
      let one = count-cons test (part x) (map part xs) in
      elim (cases_Bool (test (part x))) [
        | inl passes ↦ rw passes (omega (arith, one, ap point passes, count_passing xs))
        | inr fails ↦ rw fails (omega (arith, one, ap point fails, count_passing xs))
      ]

  pub members_pass : DistinctAreCounted → (n : ℕ) (set : ℕ → Bool) (xs : List X) → AreReplicas n (map replica xs)
      → All (λ x. test (part x) ≡ true → set (replica x) ≡ true) xs
      → count_by test (map part xs) ≤ size_of n set
  members_pass counted n set xs replicas member =
      let named = counted n (map replica (passing xs)) (replicas_passing n xs replicas) in
      let members : All (λ r. set r ≡ true) (map replica (passing xs)) =
      All-map (λ (r : ℕ). set r ≡ true) replica (passing xs)
      (λ k d inside. All-filter (λ x. test (part x)) (λ x. test (part x) ≡ true → set (replica x) ≡ true) xs member k d inside
      (filter_passes (λ x. test (part x)) xs k d inside)) in
      let within = size_within n (is_among (map replica (passing xs))) set
      (λ r below among. All-contains (λ (q : ℕ). set q ≡ true) (map replica (passing xs)) r members (Contains-from_among (map replica (passing xs)) r among)) in
      omega (arith, named, within, count_passing xs, length-map (passing xs) replica)
