-- If each arrival of a plan is at turn 0, so is all that arrives at a replica.
use Rattle.std.proofs.Common.{◌≡◌, ℕ, List, [], ◌∷◌, Bool, true, false, nat_le, refl}
use Rattle.std.specs.Prelude.{All, filter, ◌==◌, if◌then◌else◌}
use Rattle.std.specs.List.{fold}
use Rattle.std.proofs.lemmas.List.Concat.{flat_map-cons}
use Rattle.std.proofs.lemmas.List.Elements.{All-nil, All-cons, All-head, All-tail, All-append, All-filter}
use Rattle.seq_base.specs.declared.tx.Tx.{Tx}
use Rattle.plan_text.specs.declared.plan.Arrival.{Arrival}
use Rattle.plan_text.specs.declared.plan.Plan.{Plan}
use Rattle.replica_seat.specs.declared.arrivals.TimedTx.{TimedTx}
use Rattle.replica_seat.specs.Feed.{at_turn, clients_for, put_by_turn, arrivals_at, timed, arrivals_for, timed_for}

abbrev IsFirst : TimedTx → Type 0
IsFirst t = t.turn ≡ 0

abbrev IsEarly : Arrival → Type 0
IsEarly a = a.turn ≡ 0

all_at : (turn : ℕ) → turn ≡ 0 → (txs : List Tx) → All IsFirst (at_turn turn txs)
all_at turn is [] = All-nil IsFirst
all_at turn is (t ∷ ts) = All-cons IsFirst (record { turn = turn; tx = t }) (at_turn turn ts) is (all_at turn is ts)

put_early : (xs : List Arrival) (a : Arrival) → All IsEarly xs → IsEarly a → All IsEarly (put_by_turn xs a)
put_early [] a all is = All-cons IsEarly a [] is (All-nil IsEarly)
put_early (b ∷ bs) a all is = by (nat_le b.turn a.turn) (put_early bs a (All-tail IsEarly b bs all) is)
  where
    by : (t : Bool) → All IsEarly (put_by_turn bs a) → All IsEarly (if t then b ∷ put_by_turn bs a else a ∷ b ∷ bs)
    by true later = All-cons IsEarly b (put_by_turn bs a) (All-head IsEarly b bs all) later
    by false later = All-cons IsEarly a (b ∷ bs) is all

sorted_early : (sorted xs : List Arrival) → All IsEarly sorted → All IsEarly xs → All IsEarly (fold put_by_turn sorted xs)
sorted_early sorted [] one all = one
sorted_early sorted (a ∷ xs) one all = sorted_early (put_by_turn sorted a) xs (put_early sorted a one (All-head IsEarly a xs all)) (All-tail IsEarly a xs all)

timed_first : (xs : List Arrival) → All IsEarly xs → All IsFirst (timed xs)
timed_first [] all = All-nil IsFirst
timed_first (a ∷ xs) all = rw (flat_map-cons (λ (x : Arrival). at_turn x.turn x.txs) a xs)
    (All-append IsFirst (at_turn a.turn a.txs) (timed xs) (all_at a.turn (All-head IsEarly a xs all) a.txs) (timed_first xs (All-tail IsEarly a xs all)))

pub arrives_at_once : (plan : Plan) (r : ℕ) → All (λ a. a.turn ≡ 0) plan.arrivals → All (λ t. t.turn ≡ 0) (timed_for plan r)
unfolding arrivals_for
arrives_at_once plan r all =
    All-append IsFirst (at_turn 0 (clients_for plan.clients r)) (arrivals_for plan.arrivals r) (all_at 0 refl (clients_for plan.clients r))
    (timed_first (arrivals_at plan.arrivals r)
    (sorted_early [] (filter (λ a. a.replica == r) plan.arrivals) (All-nil IsEarly) (All-filter (λ a. a.replica == r) IsEarly plan.arrivals all)))
