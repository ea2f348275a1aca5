-- What a plan's clients add to an arrival list: as many transactions as they count, each once and each within its widths.
use Rattle.std.proofs.Common.{◌≡◌, ◌≢◌, ℕ, suc, zero, ◌+◌, ◌-◌, ◌<◌, ◌≤◌, ◌^◌, ◌==◌, ◌&&◌, List, [], ◌∷◌, Bool, true, false, not, cond, nat_le, All, AllPairs, refl, sym, subst, ◌∙◌, inl, inr, arith}
use Rattle.std.specs.List.{range_with_len}
use Rattle.std.proofs.lemmas.Bool.{cases_Bool, leb-true, lt-ltb, eqb-true}
use Rattle.std.proofs.lemmas.List.Elements.{All-nil, All-cons, All-head, All-tail}
use Rattle.seq_base.specs.declared.tx.Tx.{Tx}
use Rattle.seq_base.specs.Tx.{tx_eq, FitsTx}
use Rattle.seq_base.proofs.Points.{point}
use Rattle.plan_text.specs.TxTexts.{fits_tx}
use Rattle.plan_text.specs.declared.plan.Client.{Client}
use Rattle.plan_text.specs.Clients.{is_client}
use Rattle.replica_seat.proofs.Totals.{total, passing, total-le, none_passes, once_passes}
use Rattle.replica_seat.proofs.ArrivalSums.{shares}

-- 1 for each transaction that is not within the widths of its fields
abbrev pub misfit : Tx → ℕ
misfit t = point (not (fits_tx t))

-- ---- as many as they count

in_rounds : (count a n : ℕ) → total (λ k. cond (nat_le k count) 1 0) (range_with_len a n) ≤ count + 1 - a
in_rounds count a zero = omega arith
in_rounds count a (suc n) = elim (cases_Bool (nat_le a count)) [
  | inl so ↦ rw so (omega (arith, leb-true a count so, in_rounds count (a + 1) n))
  | inr not_so ↦ rw not_so (omega (arith, in_rounds count (a + 1) n))
]

pub share_counts : (n : ℕ) (clients : List Client) → total (shares (λ t. 1) (range_with_len 1 n)) clients ≤ total (λ c. c.count) clients
share_counts n clients = total-le (shares (λ t. 1) (range_with_len 1 n)) (λ c. c.count) clients (each clients)
  where
    each : (clients : List Client) → All (λ c. shares (λ t. 1) (range_with_len 1 n) c ≤ c.count) clients
    each [] = All-nil (λ (c : Client). shares (λ t. 1) (range_with_len 1 n) c ≤ c.count)
    each (c ∷ clients) = All-cons (λ (c : Client). shares (λ t. 1) (range_with_len 1 n) c ≤ c.count) c clients
        (omega (arith, in_rounds c.count 1 n)) (each clients)

-- ---- each within its widths

pub fits_none : (t : Tx) → FitsTx t → misfit t ≡ 0
fits_none t fits = rw (lt-ltb t.client (2 ^ 32) fits.client, lt-ltb t.number (2 ^ 32) fits.number, lt-ltb t.payload (2 ^ 64) fits.payload) refl

fit_in_rounds : (id count a n : ℕ) → id < 2 ^ 32 → count ≤ 65536
    → total (λ k. cond (nat_le k count) (misfit (record { client = id; number = k; payload = 0 })) 0) (range_with_len a n) ≡ 0
fit_in_rounds id count a zero small few = refl
fit_in_rounds id count a (suc n) small few = elim (cases_Bool (nat_le a count)) [
  | inl so ↦ rw so (omega (
    arith,
    fits_none (record { client = id; number = a; payload = 0 })
        (record { client = small; number = omega (arith, leb-true a count so, few); payload = omega arith }),
    fit_in_rounds id count (a + 1) n small few,
  ))
  | inr not_so ↦ rw not_so (omega (arith, fit_in_rounds id count (a + 1) n small few))
]

pub share_fits : (n : ℕ) (clients : List Client) → All (λ c. c.id < 2 ^ 32) clients → All (λ c. c.count ≤ 65536) clients
    → total (shares misfit (range_with_len 1 n)) clients ≡ 0
share_fits n [] small few = refl
share_fits n (c ∷ clients) small few =
    omega (
      arith,
      fit_in_rounds c.id c.count 1 n (All-head (λ (c : Client). c.id < 2 ^ 32) c clients small) (All-head (λ (c : Client). c.count ≤ 65536) c clients few),
      share_fits n clients (All-tail (λ (c : Client). c.id < 2 ^ 32) c clients small) (All-tail (λ (c : Client). c.count ≤ 65536) c clients few),
    )

-- ---- each once

-- a number is once in a range
absent_in_range : (m a n : ℕ) → m < a → passing (λ k. k == m) (range_with_len a n) ≡ 0
absent_in_range m a zero below = refl
absent_in_range m a (suc n) below = elim (cases_Bool (a == m)) [
  | inl so ↦ absurd (omega (arith, below, eqb-true a m so))
  | inr not_so ↦ rw not_so (omega (arith, absent_in_range m (a + 1) n (omega (arith, below))))
]

once_in_range : (m a n : ℕ) → passing (λ k. k == m) (range_with_len a n) ≤ 1
once_in_range m a zero = omega arith
once_in_range m a (suc n) = elim (cases_Bool (a == m)) [
  | inl so ↦ rw so (omega (arith, absent_in_range m (a + 1) n (omega (arith, eqb-true a m so))))
  | inr not_so ↦ rw not_so (omega (arith, once_in_range m (a + 1) n))
]

-- one transaction of a client
at_most : (chosen same same_number rest : Bool) → cond chosen (point (same && (same_number && rest))) 0 ≤ point same_number
at_most true true true true = omega arith
at_most true true true false = omega arith
at_most true true false rest = omega arith
at_most true false true rest = omega arith
at_most true false false rest = omega arith
at_most false same true rest = omega arith
at_most false same false rest = omega arith

unlike : (chosen rest : Bool) → cond chosen (point (false && rest)) 0 ≡ 0
unlike true rest = refl
unlike false rest = refl

-- 1 for a transaction, and for no other
abbrev pub given : Tx → Tx → ℕ
given t x = point (tx_eq x t)

one_of_client : (t : Tx) (c : Client) (a n : ℕ) → shares (given t) (range_with_len a n) c ≤ passing (λ k. k == t.number) (range_with_len a n)
one_of_client t c a zero = omega arith
one_of_client t c a (suc n) = omega (arith, at_most (nat_le a c.count) (c.id == t.client) (a == t.number) (0 == t.payload), one_of_client t c (a + 1) n)

none_of_client : (t : Tx) (c : Client) (a n : ℕ) → (c.id == t.client) ≡ false → shares (given t) (range_with_len a n) c ≡ 0
none_of_client t c a zero other = refl
none_of_client t c a (suc n) other =
    rw other (omega (arith, unlike (nat_le a c.count) ((a == t.number) && (0 == t.payload)), none_of_client t c (a + 1) n other))

once_of_client : (t : Tx) (c : Client) (n : ℕ) → shares (given t) (range_with_len 1 n) c ≤ point (c.id == t.client)
once_of_client t c n = elim (cases_Bool (c.id == t.client)) [
  | inl so ↦ subst (λ (same : Bool). shares (given t) (range_with_len 1 n) c ≤ point same) (sym so)
      (omega (arith, one_of_client t c 1 n, once_in_range t.number 1 n))
  | inr not_so ↦ subst (λ (same : Bool). shares (given t) (range_with_len 1 n) c ≤ point same) (sym not_so) (omega (arith, none_of_client t c 1 n not_so))
]

share_once : (t : Tx) (n : ℕ) (clients : List Client) → total (shares (given t) (range_with_len 1 n)) clients ≤ passing (λ c. c.id == t.client) clients
share_once t n [] = omega arith
share_once t n (c ∷ clients) = omega (arith, once_of_client t c n, share_once t n clients)

pub clients_once : (t : Tx) (n : ℕ) (clients : List Client) → AllPairs (λ c d. c.id ≢ d.id) clients → total (shares (given t) (range_with_len 1 n)) clients ≤ 1
clients_once t n clients differ =
    let one : passing (λ c. c.id == t.client) clients ≤ 1 =
    once_passes (λ c. c.id == t.client) (λ c d. c.id ≢ d.id)
    (λ c d a b other. other (eqb-true c.id t.client a ∙ sym (eqb-true d.id t.client b))) clients differ in
    omega (arith, share_once t n clients, one)

pub no_client : (t : Tx) (n : ℕ) (clients : List Client) → is_client clients t.client ≡ false → total (shares (given t) (range_with_len 1 n)) clients ≡ 0
no_client t n clients none = omega (arith, share_once t n clients, none_passes (λ c. c.id == t.client) clients none)
