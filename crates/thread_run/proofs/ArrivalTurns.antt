-- Arrivals at a replica are in ascending order of turns: what was not given by a count of turns comes later.
use Rattle.std.proofs.Common.{◌≡◌, ℕ, suc, ◌+◌, ◌<◌, ◌≤◌, List, [], ◌∷◌, ◌++◌, false, drop, subst, inl, inr, arith}
use Rattle.std.specs.Prelude.{⊤, nat_le}
use Rattle.std.specs.List.{AllByRecursion, fold, prefix_len}
use Rattle.std.proofs.lemmas.Bool.{cases_Bool}
use Rattle.std.proofs.lemmas.Bool.Decides.{nat_tests}
use Rattle.seq_base.specs.declared.tx.Tx.{Tx}
use Rattle.plan_text.specs.declared.plan.Arrival.{Arrival}
use Rattle.replica_seat.specs.Feed.{arrivals_at, arrivals_for, at_turn, put_by_turn, timed}
use Rattle.replica_seat.specs.declared.arrivals.TimedTx.{TimedTx}

-- turns rise from a number on
abbrev Rises : ℕ → List Arrival → Type 0
Rises low [] = ⊤
Rises low (a ∷ others) = (low ≤ a.turn) × Rises a.turn others

abbrev RisesTimed : ℕ → List TimedTx → Type 0
RisesTimed low [] = ⊤
RisesTimed low (t ∷ ts) = (low ≤ t.turn) × RisesTimed t.turn ts

put_rises : (low : ℕ) (others : List Arrival) (a : Arrival) → low ≤ a.turn → Rises low others → Rises low (put_by_turn others a)
put_rises low [] a le h = (le, tt)
put_rises low (b ∷ bs) a le h = elim (cases_Bool (nat_le b.turn a.turn)) [
  | inl so ↦ (
      let before : b.turn ≤ a.turn = grind (arith, nat_tests) in
      rw so (h.0, put_rises b.turn bs a before h.1))
  | inr not_so ↦ (
      let following : a.turn ≤ b.turn = grind (arith, nat_tests) in
      rw not_so (le, (following, h.1)))
]

all_rise : (others sorted : List Arrival) → Rises 0 sorted → Rises 0 (fold put_by_turn sorted others)
all_rise [] sorted h = h
all_rise (a ∷ others) sorted h = all_rise others (put_by_turn sorted a) (put_rises 0 sorted a (omega arith) h)

lower : (low high : ℕ) (ts : List TimedTx) → low ≤ high → RisesTimed high ts → RisesTimed low ts
lower low high [] le h = tt
lower low high (t ∷ ts) le h = (let first = h.0 in omega (arith, le, first), h.1)

one_turn : (low turn : ℕ) (txs : List Tx) (rest : List TimedTx) → low ≤ turn → RisesTimed turn rest → RisesTimed low (at_turn turn txs ++ rest)
one_turn low turn [] rest le h = lower low turn rest le h
one_turn low turn (t ∷ txs) rest le h = (le, one_turn turn turn txs rest (omega arith) h)

timed_rise : (low : ℕ) (others : List Arrival) → Rises low others → RisesTimed low (timed others)
timed_rise low [] h = tt
timed_rise low (a ∷ others) h = one_turn low a.turn a.txs (timed others) h.0 (timed_rise a.turn others h.1)

arrivals_rise : (arrivals : List Arrival) (at : ℕ) → RisesTimed 0 (arrivals_for arrivals at)
unfolding arrivals_for
arrivals_rise arrivals at = timed_rise 0 (arrivals_at arrivals at)
    (all_rise (Rattle.std.specs.Prelude.filter (λ a. Rattle.std.specs.Prelude.nat_eq a.replica at) arrivals) [] tt)

following : (low : ℕ) (xs ys : List TimedTx) → RisesTimed low (xs ++ ys) → (high : ℕ) × RisesTimed high ys
following low [] ys h = (low, h)
following low (x ∷ xs) ys h = following x.turn xs ys h.1

module _ (turns : ℕ) where
  abbrev pub IsLate : TimedTx → Type 0
  IsLate t = nat_le t.turn turns ≡ false

  all_late : (low : ℕ) (ts : List TimedTx) → turns < low → RisesTimed low ts → AllByRecursion IsLate ts
  all_late low [] lt h = tt
  all_late low (t ∷ ts) lt h =
      let first = h.0 in
      let over : turns < t.turn = omega (arith, lt, first) in
      (grind (arith, nat_tests), all_late t.turn ts over h.1)

  left_late : (low : ℕ) (ts : List TimedTx) → RisesTimed low ts → AllByRecursion IsLate (drop (prefix_len (λ t. nat_le t.turn turns) ts) ts)
  left_late low [] h = tt
  left_late low (t ∷ ts) h = elim (cases_Bool (nat_le t.turn turns)) [
    | inl so ↦ (
        let n : ℕ = prefix_len (λ x. nat_le x.turn turns) ts in
        let one : suc n ≡ 1 + n = omega arith in
        rw so (subst (λ (k : ℕ). AllByRecursion IsLate (drop k (t ∷ ts))) one (left_late t.turn ts h.1)))
    | inr not_so ↦ (
        let over : turns < t.turn = grind (arith, nat_tests) in
        rw not_so (not_so, all_late t.turn ts over h.1))
  ]

  -- what is left of a replica's arrivals, once what arrived by a count of turns was given, comes later
  pub later_left : (arrivals : List Arrival) (at : ℕ) (given left : List TimedTx) → arrivals_for arrivals at ≡ given ++ left
      → AllByRecursion IsLate (drop (prefix_len (λ t. nat_le t.turn turns) left) left)
  later_left arrivals at given left is =
      (let (low, rises) = following 0 given left (subst (RisesTimed 0) is (arrivals_rise arrivals at)) in left_late low left rises)
