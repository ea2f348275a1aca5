-- What tests over lists say of their members.
use Rattle.std.proofs.Common.{◌≡◌, ◌⊎◌, ℕ, suc, zero, ◌+◌, ◌<◌, List, [], ◌∷◌, map, length, get_or, Bool, true, false, Some, refl, ap, slice_get, arith, inl, inr}
use Rattle.std.specs.List.{list_all, list_any, filter, Contains}
use Rattle.std.proofs.lemmas.Bool.{cases_Bool, and_parts, and_from, or_cases, or_left, or_right}
use Rattle.seq_base.specs.declared.tx.Tx.{Tx}
use Rattle.seq_base.specs.Lists.{holds}
use Rattle.seq_base.specs.Tx.{tx_eq, tx_eq_decides}
use Rattle.run_record.specs.Honest.{honest_items}
use Rattle.run_verdict.proofs.PlaceOrder.{Among}

pub contains_shows : {X : Type 0} (xs : List X) (x : X) → Contains xs x → Among x xs
contains_shows {X} xs x within = by_place xs within.0 within.1 within.2
  where
    by_place : (ys : List X) (k : ℕ) → k < length ys → get_or ys k x ≡ x → Among x ys
    by_place [] k below is = absurd (omega (arith, below))
    by_place (y ∷ ys) zero below is = inl is
    by_place (y ∷ ys) (suc k) below is = inr (by_place ys k (omega arith) is)

pub contains_holds : {X : Type 0} (xs : List X) (x : X) → Among x xs → Contains xs x
contains_holds [] x within = absurd within
contains_holds (y ∷ ys) x (inl is) = (0, (omega arith), is)
contains_holds (y ∷ ys) x (inr following) = let rest = contains_holds ys x following in (suc rest.0, omega (arith, rest.1), rest.2)

pub all_shows : {X : Type 0} (p : X → Bool) (xs : List X) → list_all p xs ≡ true → (x : X) → Among x xs → p x ≡ true
all_shows p [] all x within = absurd within
all_shows p (y ∷ ys) all x (inl is) = rw (← is) (and_parts (p y) (list_all p ys) all).0
all_shows p (y ∷ ys) all x (inr following) = all_shows p ys (and_parts (p y) (list_all p ys) all).1 x following

pub all_holds : {X : Type 0} (p : X → Bool) (xs : List X) → ((x : X) → Among x xs → p x ≡ true) → list_all p xs ≡ true
all_holds p [] each = refl
all_holds p (y ∷ ys) each = and_from (p y) (list_all p ys) (each y (inl refl)) (all_holds p ys (λ x within. each x (inr within)))

pub any_shows : {X : Type 0} (p : X → Bool) (xs : List X) → list_any p xs ≡ true → (x : X) × Among x xs × (p x ≡ true)
any_shows p [] some = cc
any_shows p (y ∷ ys) some = elim (or_cases (p y) (list_any p ys) some) [
  | inl passes ↦ (y, inl refl, passes)
  | inr following ↦ let rest = any_shows p ys following in (rest.0, inr rest.1, rest.2)
]

pub any_holds : {X : Type 0} (p : X → Bool) (xs : List X) (x : X) → Among x xs → p x ≡ true → list_any p xs ≡ true
any_holds p [] x within passes = absurd within
any_holds p (y ∷ ys) x (inl is) passes = or_left (p y) (list_any p ys) (rw is passes)
any_holds p (y ∷ ys) x (inr following) passes = or_right (p y) (list_any p ys) (any_holds p ys x following passes)

pub filter_shows : {X : Type 0} (p : X → Bool) (xs : List X) (x : X) → Among x (filter p xs) → Among x xs × (p x ≡ true)
filter_shows p [] x within = absurd within
filter_shows p (y ∷ ys) x within = elim (cases_Bool (p y)) [
  | inl passes ↦ elim (first (rw passes at within)) [
    | inl is ↦ (inl is, rw (← is) passes)
    | inr following ↦ let rest = filter_shows p ys x following in (inr rest.0, rest.1)
  ]
  | inr fails ↦ let rest = filter_shows p ys x (rw fails at within) in (inr rest.0, rest.1)
]
  where
    first : Among x (y ∷ filter p ys) → (y ≡ x) ⊎ Among x (filter p ys)
    first either = either

pub filter_holds : {X : Type 0} (p : X → Bool) (xs : List X) (x : X) → Among x xs → p x ≡ true → Among x (filter p xs)
filter_holds p [] x within passes = absurd within
filter_holds p (y ∷ ys) x (inl is) passes = let here : p y ≡ true = rw is passes in rw here (inl is)
filter_holds p (y ∷ ys) x (inr following) passes = by_head (p y) refl (filter_holds p ys x following passes)
  where
    by_head : (b : Bool) → p y ≡ b → Among x (filter p ys) → Among x (filter p (y ∷ ys))
    by_head true here rest = rw here (inr rest)
    by_head false here rest = rw here rest

pub map_shows : {X Y : Type 0} (f : X → Y) (xs : List X) (y : Y) → Among y (map f xs) → (x : X) × Among x xs × (f x ≡ y)
map_shows f [] y within = absurd within
map_shows f (x ∷ xs) y (inl is) = (x, inl refl, is)
map_shows f (x ∷ xs) y (inr following) = let rest = map_shows f xs y following in (rest.0, inr rest.1, rest.2)

pub map_holds : {X Y : Type 0} (f : X → Y) (xs : List X) (x : X) → Among x xs → Among (f x) (map f xs)
map_holds f [] x within = absurd within
map_holds f (y ∷ ys) x (inl is) = inl (ap f is)
map_holds f (y ∷ ys) x (inr following) = inr (map_holds f ys x following)

pub holds_shows : (tx : Tx) (txs : List Tx) → holds tx txs ≡ true → Among tx txs
holds_shows tx txs some =
    let found = any_shows (λ x. tx_eq x tx) txs some in
    let same : found.0 ≡ tx = (tx_eq_decides found.0 tx).0 found.2 in
    rw same at found.1

pub holds_holds : (tx : Tx) (txs : List Tx) → Among tx txs → holds tx txs ≡ true
holds_holds tx txs within = any_holds (λ x. tx_eq x tx) txs tx within ((tx_eq_decides tx tx).1 refl)

-- ---- what belongs to honest replicas

-- the replica, and the item that it has
pub record Owned {X : Type 0} (honest : ℕ → Bool) (n : ℕ) (xs : List X) (item : ℕ × X) : Type 0 where
  pub place : ℕ
  pub replica_is : item.0 ≡ n + place
  pub honest_is : honest item.0 ≡ true
  pub is : slice_get xs place ≡ Some item.1

pub items_show : {X : Type 0} (honest : ℕ → Bool) (n : ℕ) (xs : List X) (item : ℕ × X) → Among item (honest_items honest n xs) → Owned honest n xs item
items_show honest n [] item within = absurd within
items_show {X} honest n (x ∷ xs) item within = elim (cases_Bool (honest n)) [
  | inl does ↦ elim (first (rw does at within)) [
    | inl is ↦
        let number : n ≡ item.0 = ap (λ (p : ℕ × X). p.0) is in
        record { place = 0; replica_is = omega arith; honest_is = rw (← number) does; is = ap (λ (p : ℕ × X). Some p.1) is }
    | inr following ↦ later (items_show honest (n + 1) xs item following)
  ]
  | inr fails ↦ later (items_show honest (n + 1) xs item (rw fails at within))
]
  where
    first : Among item ((n, x) ∷ honest_items honest (n + 1) xs) → ((n, x) ≡ item) ⊎ Among item (honest_items honest (n + 1) xs)
    first either = either

    later : Owned honest (n + 1) xs item → Owned honest n (x ∷ xs) item
    later o = record { place = suc o.place; replica_is = omega (arith, o.replica_is); honest_is = o.honest_is; is = o.is }

pub items_hold : {X : Type 0} (honest : ℕ → Bool) (n : ℕ) (xs : List X) (place m : ℕ) (x : X) → slice_get xs place ≡ Some x → m ≡ n + place
    → honest m ≡ true → Among (m, x) (honest_items honest n xs)
items_hold honest n [] place m x is number does = cc
items_hold honest n (y ∷ ys) zero m x is number does =
    let same : m ≡ n = omega arith in
    let here : y ≡ x = cc in
    rw (rw same at does) (inl (rw (same, here) refl))
items_hold honest n (y ∷ ys) (suc place) m x is number does = by_head (honest n) refl (items_hold honest (n + 1) ys place m x is (omega arith) does)
  where
    by_head : (b : Bool) → honest n ≡ b → Among (m, x) (honest_items honest (n + 1) ys) → Among (m, x) (honest_items honest n (y ∷ ys))
    by_head true here rest = rw here (inr rest)
    by_head false here rest = rw here rest
