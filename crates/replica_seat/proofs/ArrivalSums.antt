-- What is summed over a replica's arrival list is summed over the clients' transactions and over what the replica receives.
use Rattle.std.proofs.Common.{◌≡◌, ℕ, ◌+◌, ◌==◌, List, [], ◌∷◌, filter, fold, Bool, true, false, cond, nat_le, refl, sym, ◌∙◌, inl, inr, arith}
use Rattle.std.specs.List.{range_with_len}
use Rattle.std.proofs.lemmas.Bool.{cases_Bool}
use Rattle.seq_base.specs.declared.tx.Tx.{Tx}
use Rattle.plan_text.specs.declared.plan.Arrival.{Arrival}
use Rattle.plan_text.specs.declared.plan.Client.{Client}
use Rattle.plan_text.specs.declared.plan.Plan.{Plan}
use Rattle.plan_text.specs.Arrivals.{received}
use Rattle.replica_seat.specs.declared.arrivals.TimedTx.{TimedTx}
use Rattle.replica_seat.specs.Feed.{at_turn, around, round_of, rounds_of, clients_for, put_by_turn, by_turn, arrivals_at, timed, arrivals_for, timed_for, txs_of}
use Rattle.replica_seat.proofs.Totals.{total, total-append, total-map, total-flat_map, total-filter, total_same, total_swap, total-around}

-- ---- the arrivals, by turn

put : (g : Arrival → ℕ) (bs : List Arrival) (a : Arrival) → total g (put_by_turn bs a) ≡ g a + total g bs
put g [] a = refl
put g (b ∷ bs) a = elim (cases_Bool (nat_le b.turn a.turn)) [
  | inl so ↦ rw so (omega (arith, put g bs a))
  | inr not_so ↦ rw not_so refl
]

puts : (g : Arrival → ℕ) (before arrivals : List Arrival) → total g (fold put_by_turn before arrivals) ≡ total g before + total g arrivals
puts g before [] = omega arith
puts g before (a ∷ arrivals) = omega (arith, puts g (put_by_turn before a) arrivals, put g before a)

sorted : (g : Arrival → ℕ) (arrivals : List Arrival) → total g (by_turn arrivals) ≡ total g arrivals
sorted g arrivals = omega (arith, puts g [] arrivals)

module _ (f : Tx → ℕ) where
  at_turns : (turn : ℕ) (txs : List Tx) → total (λ (t : TimedTx). f t.tx) (at_turn turn txs) ≡ total f txs
  at_turns turn txs = total-map (λ (t : TimedTx). f t.tx) (λ (t : Tx). record { turn = turn; tx = t }) txs

  times : (arrivals : List Arrival) → total (λ (t : TimedTx). f t.tx) (timed arrivals) ≡ total (λ (a : Arrival). total f a.txs) arrivals
  times arrivals =
      total-flat_map (λ (t : TimedTx). f t.tx) (λ (a : Arrival). at_turn a.turn a.txs) arrivals
      ∙ total_same (λ (a : Arrival). total (λ (t : TimedTx). f t.tx) (at_turn a.turn a.txs)) (λ (a : Arrival). total f a.txs)
      (λ a. at_turns a.turn a.txs) arrivals

  chosen : (b : Bool) (txs : List Tx) → cond b (total f txs) 0 ≡ total f (cond b txs [])
  chosen true txs = refl
  chosen false txs = refl

  pub arrivals_total : (arrivals : List Arrival) (r : ℕ) → total (λ (t : TimedTx). f t.tx) (arrivals_for arrivals r) ≡ total f (received r arrivals)
  unfolding arrivals_for
  arrivals_total arrivals r =
      times (arrivals_at arrivals r)
      ∙ sorted (λ (a : Arrival). total f a.txs) (filter (λ a. a.replica == r) arrivals)
      ∙ total-filter (λ (a : Arrival). total f a.txs) (λ a. a.replica == r) arrivals
      ∙ total_same (λ (a : Arrival). cond (a.replica == r) (total f a.txs) 0) (λ (a : Arrival). total f (cond (a.replica == r) a.txs []))
      (λ a. chosen (a.replica == r) a.txs) arrivals
      ∙ sym (total-flat_map f (λ (a : Arrival). cond (a.replica == r) a.txs []) arrivals)

  -- ---- the clients, round by round

  -- what a client adds in one round, and in all
  abbrev pub share : ℕ → Client → ℕ
  share k c = cond (nat_le k c.count) (f (record { client = c.id; number = k; payload = 0 })) 0

  abbrev pub shares : List ℕ → Client → ℕ
  shares rounds c = total (λ k. share k c) rounds

  round_total : (clients : List Client) (k : ℕ) → total f (round_of clients k) ≡ total (share k) clients
  round_total clients k =
      total-map f (λ (c : Client). record { client = c.id; number = k; payload = 0 }) (filter (λ c. nat_le k c.count) clients)
      ∙ total-filter (λ (c : Client). f (record { client = c.id; number = k; payload = 0 })) (λ c. nat_le k c.count) clients

  clients_total : (clients : List Client) (r : ℕ) → total f (clients_for clients r) ≡ total (shares (range_with_len 1 (rounds_of clients))) clients
  unfolding clients_for
  clients_total clients r =
      total-flat_map f (round_of (around r clients)) (range_with_len 1 (rounds_of clients))
      ∙ total_same (λ k. total f (round_of (around r clients) k)) (λ k. total (share k) (around r clients)) (round_total (around r clients))
      (range_with_len 1 (rounds_of clients))
      ∙ total_swap share (range_with_len 1 (rounds_of clients)) (around r clients)
      ∙ total-around (shares (range_with_len 1 (rounds_of clients))) r clients

  -- ---- both

  pub feed_total : (plan : Plan) (r : ℕ) → total f (txs_of (timed_for plan r))
      ≡ total (shares (range_with_len 1 (rounds_of plan.clients))) plan.clients + total f (received r plan.arrivals)
  feed_total plan r =
      total-map f (λ (t : TimedTx). t.tx) (timed_for plan r)
      ∙ total-append (λ (t : TimedTx). f t.tx) (at_turn 0 (clients_for plan.clients r)) (arrivals_for plan.arrivals r)
      ∙ rw (at_turns 0 (clients_for plan.clients r), clients_total plan.clients r, arrivals_total plan.arrivals r) refl
