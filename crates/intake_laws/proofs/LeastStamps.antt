-- The key is at most s exactly where k stamps are, and the adopted clock is at least c exactly where f+1 clocks are.
use Rattle.std.proofs.Common.{◌≡◌, ℕ, zero, suc, ◌+◌, ◌<◌, ◌≤◌, List, [], ◌∷◌, Bool, true, false, leb, refl, ap, subst, ◌∙◌, ◌⊎◌, inl, inr, arith}
use Rattle.std.specs.Prelude.{filter, fold, min, max, Contains}
use Rattle.std.proofs.lemmas.Bool.{cases_Bool, cases_lt, cases_eq, leb-true, le-leb, lt-leb}
use Rattle.std.proofs.lemmas.List.Sums.{sum_by-cons}
use Rattle.seq_base.proofs.Points.{point}
use Rattle.intake.specs.Keys.{unknown, count_upto, reaches, key_of, count_from, adopted_of}

points_mono : (a b : Bool) → (a ≡ true → b ≡ true) → point a ≤ point b
points_mono true b more = rw (more refl) (omega arith)
points_mono false b more = omega arith

module _ {X : Type 0} where
  pub Contains-first : (x : X) (xs : List X) → Contains (x ∷ xs) x
  Contains-first x xs = (0, (omega arith), refl)

  pub Contains-later : (y : X) (xs : List X) (x : X) → Contains xs x → Contains (y ∷ xs) x
  Contains-later y xs x found = (suc found.0, (omega (arith, found.1)), found.2)

  pub Contains-cases : (y : X) (xs : List X) (x : X) → Contains (y ∷ xs) x → (y ≡ x) ⊎ Contains xs x
  Contains-cases y xs x (zero, within, same) = inl same
  Contains-cases y xs x (suc k, within, same) = inr (k, (omega arith), same)

  pub Contains-none : (x : X) → Contains [] x → ⊥
  Contains-none x found = omega (arith, found.1)

  module _ (p : X → Bool) where
    pub Contains-filter : (xs : List X) (x : X) → Contains xs x → p x ≡ true → Contains (filter p xs) x
    Contains-filter [] x found passes = absurd (Contains-none x found)
    Contains-filter (y ∷ xs) x found passes =
        elim (Contains-cases y xs x found) [
          | inl same ↦ let here : p y ≡ true = rw same passes in rw here (0, (omega arith), same)
          | inr rest ↦ elim (cases_Bool (p y)) [
            | inl kept ↦ rw kept (Contains-later y (filter p xs) x (Contains-filter xs x rest passes))
            | inr left ↦ rw left (Contains-filter xs x rest passes)
          ]
        ]

    pub Contains-unfilter : (xs : List X) (x : X) → Contains (filter p xs) x → Contains xs x × (p x ≡ true)
    Contains-unfilter [] x found = absurd (Contains-none x found)
    Contains-unfilter (y ∷ xs) x found =
        elim (cases_Bool (p y)) [
          | inl kept ↦
              elim (Contains-cases y (filter p xs) x (rw kept at found)) [
                | inl same ↦ ((0, (omega arith), same), subst (λ (z : X). p z ≡ true) same kept)
                | inr rest ↦ let more = Contains-unfilter xs x rest in (Contains-later y xs x more.0, more.1)
              ]
          | inr left ↦ let more = Contains-unfilter xs x (rw left at found) in (Contains-later y xs x more.0, more.1)
        ]

-- ---- the least and the greatest

least-le : (u : ℕ) (xs : List ℕ) → fold min u xs ≤ u
least-le u [] = omega arith
least-le u (x ∷ xs) = omega (arith, least-le (min u x) xs)

least-le-each : (u : ℕ) (xs : List ℕ) (x : ℕ) → Contains xs x → fold min u xs ≤ x
least-le-each u [] x found = absurd (Contains-none x found)
least-le-each u (y ∷ xs) x found =
    elim (Contains-cases y xs x found) [
      | inl same ↦ omega (arith, least-le (min u y) xs, same)
      | inr rest ↦ least-le-each (min u y) xs x rest
    ]

least_is : (u : ℕ) (xs : List ℕ) → (fold min u xs ≡ u) ⊎ Contains xs (fold min u xs)
least_is u [] = inl refl
least_is u (x ∷ xs) =
    elim (least_is (min u x) xs) [
      | inl same ↦ elim (cases_lt u x) [
        | inl less ↦ inl (omega (arith, same))
        | inr more ↦ let found : x ≡ fold min u (x ∷ xs) = omega (arith, same) in inr (subst_first found)
      ]
      | inr rest ↦ inr (Contains-later x xs _ rest)
    ]
  where
    subst_first : {y : ℕ} → x ≡ y → Contains (x ∷ xs) y
    subst_first same = (0, (omega arith), same)

greatest-ge : (u : ℕ) (xs : List ℕ) → u ≤ fold max u xs
greatest-ge u [] = omega arith
greatest-ge u (x ∷ xs) = omega (arith, greatest-ge (max u x) xs)

greatest-ge-each : (u : ℕ) (xs : List ℕ) (x : ℕ) → Contains xs x → x ≤ fold max u xs
greatest-ge-each u [] x found = absurd (Contains-none x found)
greatest-ge-each u (y ∷ xs) x found =
    elim (Contains-cases y xs x found) [
      | inl same ↦ omega (arith, greatest-ge (max u y) xs, same)
      | inr rest ↦ greatest-ge-each (max u y) xs x rest
    ]

greatest_is : (u : ℕ) (xs : List ℕ) → (fold max u xs ≡ u) ⊎ Contains xs (fold max u xs)
greatest_is u [] = inl refl
greatest_is u (x ∷ xs) =
    elim (greatest_is (max u x) xs) [
      | inl same ↦ elim (cases_lt x u) [
        | inl less ↦ inl (omega (arith, same))
        | inr more ↦ let found : x ≡ fold max u (x ∷ xs) = omega (arith, same) in inr (subst_first found)
      ]
      | inr rest ↦ inr (Contains-later x xs _ rest)
    ]
  where
    subst_first : {y : ℕ} → x ≡ y → Contains (x ∷ xs) y
    subst_first same = (0, (omega arith), same)

-- ---- keys

upto-cons : (s x : ℕ) (xs : List ℕ) → count_upto s (x ∷ xs) ≡ point (leb x s) + count_upto s xs
upto-cons s x xs = sum_by-cons (λ (y : ℕ). point (leb y s)) x xs

pub upto_mono : (s t : ℕ) (xs : List ℕ) → s ≤ t → count_upto s xs ≤ count_upto t xs
upto_mono s t [] less = omega arith
upto_mono s t (x ∷ xs) less =
    omega (
      arith,
      upto-cons s x xs,
      upto-cons t x xs,
      upto_mono s t xs less,
      points_mono (leb x s) (leb x t)
          (λ within. le-leb x t (omega (arith, leb-true x s within))),
    )

-- one number less, and no stamp fewer, where that number is no stamp
upto_step : (s : ℕ) (xs : List ℕ) → Contains xs (suc s) ⊎ (count_upto (suc s) xs ≡ count_upto s xs)
upto_step s [] = inr refl
upto_step s (x ∷ xs) =
    elim (upto_step s xs) [
      | inl found ↦ inl (Contains-later x xs (suc s) found)
      | inr same ↦ elim (cases_eq x (suc s)) [
        | inl here ↦ inl (0, (omega arith), here)
        | inr other ↦ inr (omega (arith, upto-cons s x xs, upto-cons (suc s) x xs, same, points_step x s other))
      ]
    ]
  where
    points_step : (x s : ℕ) → (x ≡ suc s → ⊥) → point (leb x (suc s)) ≡ point (leb x s)
    points_step x s other = elim (cases_lt s x) [
      | inl above ↦ rw (lt-leb x s above, lt-leb x (suc s) (more x s above other)) refl
      | inr below ↦ rw (le-leb x s below, le-leb x (suc s) (omega arith)) refl
    ]
      where
        more : (x s : ℕ) → s < x → (x ≡ suc s → ⊥) → suc s < x
        more x s above other = elim (cases_lt (suc s) x) [
          | inl less ↦ less
          | inr last ↦ absurd (other (omega arith))
        ]

upto_zero : (xs : List ℕ) → 0 < count_upto 0 xs → Contains xs 0
upto_zero [] some = absurd (omega (arith, some))
upto_zero (x ∷ xs) some =
    elim (cases_eq x 0) [
      | inl here ↦ (0, (omega arith), here)
      | inr other ↦
          let not_this : leb x 0 ≡ false = lt-leb x 0 (positive x other) in
          Contains-later x xs 0 (upto_zero xs (omega (arith, some, upto-cons 0 x xs, ap point not_this)))
    ]
  where
    positive : (x : ℕ) → (x ≡ 0 → ⊥) → 0 < x
    positive zero other = absurd (other refl)
    positive (suc x) other = omega arith

-- the greatest stamp up to s counts as many
last_stamp : (k s : ℕ) (xs : List ℕ) → 0 < k → k ≤ count_upto s xs → (x : ℕ) × Contains xs x × (x ≤ s) × (k ≤ count_upto x xs)
last_stamp k zero xs some enough = (0, upto_zero xs (omega (arith, enough)), (omega arith), enough)
last_stamp k (suc s) xs some enough =
    elim (upto_step s xs) [
      | inl found ↦ (suc s, found, (omega arith), enough)
      | inr same ↦
          let rest = last_stamp k s xs some (omega (arith, enough, same)) in
          (rest.0, rest.1, (omega (arith, rest.2)), rest.3)
    ]

pub key_upto : (k s : ℕ) (stamps : List ℕ) → 0 < k → k ≤ count_upto s stamps → key_of k stamps ≤ s
unfolding key_of
key_upto k s stamps some enough =
    let last = last_stamp k s stamps some enough in
    let found : Contains (filter (reaches k stamps) stamps) last.0 =
    Contains-filter (reaches k stamps) stamps last.0 last.1 (le-leb k (count_upto last.0 stamps) last.3) in
    omega (arith, least-le-each unknown (filter (reaches k stamps) stamps) last.0 found, last.2)

pub upto_key : (k s : ℕ) (stamps : List ℕ) → s < unknown → key_of k stamps ≤ s → k ≤ count_upto s stamps
unfolding key_of
upto_key k s stamps known within =
    elim (least_is unknown (filter (reaches k stamps) stamps)) [
      | inl none ↦ absurd (omega (arith, none, within, known))
      | inr found ↦
          let reached = Contains-unfilter (reaches k stamps) stamps _ found in
          omega (arith, leb-true k _ reached.1, upto_mono _ s stamps within)
    ]

-- ---- clocks

from-cons : (c x : ℕ) (xs : List ℕ) → count_from c (x ∷ xs) ≡ point (leb c x) + count_from c xs
from-cons c x xs = sum_by-cons (λ (y : ℕ). point (leb c y)) x xs

pub from_mono : (c e : ℕ) (xs : List ℕ) → c ≤ e → count_from e xs ≤ count_from c xs
from_mono c e [] less = omega arith
from_mono c e (x ∷ xs) less =
    omega (
      arith,
      from-cons c x xs,
      from-cons e x xs,
      from_mono c e xs less,
      points_mono (leb e x) (leb c x)
          (λ within. le-leb c x (omega (arith, leb-true e x within))),
    )

from_step : (c : ℕ) (xs : List ℕ) → Contains xs c ⊎ (count_from (suc c) xs ≡ count_from c xs)
from_step c [] = inr refl
from_step c (x ∷ xs) =
    elim (from_step c xs) [
      | inl found ↦ inl (Contains-later x xs c found)
      | inr same ↦ elim (cases_eq x c) [
        | inl here ↦ inl (0, (omega arith), here)
        | inr other ↦ inr (omega (arith, from-cons c x xs, from-cons (suc c) x xs, same, points_step x c other))
      ]
    ]
  where
    points_step : (x c : ℕ) → (x ≡ c → ⊥) → point (leb (suc c) x) ≡ point (leb c x)
    points_step x c other = elim (cases_lt x c) [
      | inl below ↦ rw (lt-leb c x below, lt-leb (suc c) x (omega arith)) refl
      | inr above ↦ rw (le-leb c x above, le-leb (suc c) x (more x c above other)) refl
    ]
      where
        more : (x c : ℕ) → c ≤ x → (x ≡ c → ⊥) → suc c ≤ x
        more x c above other = elim (cases_lt c x) [
          | inl less ↦ less
          | inr last ↦ absurd (other (omega arith))
        ]

-- a clock above all
clock_bound : (xs : List ℕ) → (bound : ℕ) × ((c : ℕ) → bound ≤ c → count_from c xs ≡ 0)
clock_bound [] = (0, λ c above. refl)
clock_bound (x ∷ xs) =
    let rest = clock_bound xs in (
      suc (x + rest.0),
      λ c above.
          let none : leb c x ≡ false = lt-leb c x (omega arith) in
          omega (arith, from-cons c x xs, ap point none, rest.1 c (omega arith)),
    )

first_clock : (fuel k c : ℕ) (xs : List ℕ) → 0 < k → k ≤ count_from c xs → count_from (c + fuel) xs ≡ 0 → (x : ℕ) × Contains xs x × (c ≤ x) ×
    (k ≤ count_from x xs)
first_clock zero k c xs some enough none =
    let same : c + 0 ≡ c = omega arith in absurd (omega (arith, enough, ap (λ (e : ℕ). count_from e xs) same, none))
first_clock (suc fuel) k c xs some enough none =
    elim (from_step c xs) [
      | inl found ↦ (c, found, (omega arith), enough)
      | inr same ↦
          let moved : suc c + fuel ≡ c + suc fuel = omega arith in
          let rest = first_clock fuel k (suc c) xs some (omega (arith, enough, same)) (ap (λ (e : ℕ). count_from e xs) moved ∙ none) in
          (rest.0, rest.1, (omega (arith, rest.2)), rest.3)
    ]

pub adopted_from : (f c : ℕ) (clocks : List ℕ) → f + 1 ≤ count_from c clocks → c ≤ adopted_of f clocks
unfolding adopted_of
adopted_from f c clocks enough =
    let bound = clock_bound clocks in
    let first = first_clock bound.0 (f + 1) c clocks (omega arith) enough (bound.1 (c + bound.0) (omega arith)) in
    let found : Contains (filter (λ x. leb (f + 1) (count_from x clocks)) clocks) first.0 =
    Contains-filter (λ (x : ℕ). leb (f + 1) (count_from x clocks)) clocks first.0 first.1 (le-leb (f + 1) (count_from first.0 clocks) first.3) in
    omega (arith, greatest-ge-each 0 (filter (λ x. leb (f + 1) (count_from x clocks)) clocks) first.0 found, first.2)

pub from_adopted : (f c : ℕ) (clocks : List ℕ) → c ≤ adopted_of f clocks → (c ≡ 0) ⊎ (f + 1 ≤ count_from c clocks)
unfolding adopted_of
from_adopted f c clocks within =
    elim (greatest_is 0 (filter (λ x. leb (f + 1) (count_from x clocks)) clocks)) [
      | inl none ↦ inl (omega (arith, none, within))
      | inr found ↦
          let reached = Contains-unfilter (λ (x : ℕ). leb (f + 1) (count_from x clocks)) clocks _ found in
          inr (omega (arith, leb-true (f + 1) _ reached.1, from_mono c _ clocks within))
    ]
