-- A run ends by its own rules: each step after which it continues delivers an envelope or is a tick.
use Rattle.std.proofs.Common.{◌≡◌, ℕ, zero, suc, ◌+◌, ◌<◌, ◌≤◌, true, false, List, [], ◌∷◌, map, Option, Some, None, refl, sym, ap, ◌∙◌, arith, inl, inr, nat_le}
use Rattle.std.specs.Prelude.{slice_get, slice_set}
use Rattle.std.proofs.lemmas.Bool.{cases_Bool}
use Rattle.std.proofs.lemmas.Bool.Decides.{nat_tests}
use Rattle.seq_base.specs.declared.tx.Tx.{Tx}
use Rattle.count_set.specs.Sets.{is_among}
use Rattle.plan_text.specs.declared.plan.Plan.{Plan}
use Rattle.fault_script.specs.Sealing.{Signer}
use Rattle.node_core.specs.Rows.{Check}
use Rattle.node_core.specs.declared.event.Event.{Event}
use Rattle.node_core.specs.declared.event.Event.TheVariants.{Arrived, Deliver, Tick}
use Rattle.replica_seat.specs.Feed.{after_giving}
use Rattle.replica_seat.specs.Seats.{Replica}
use Rattle.replica_seat.specs.Acting.{after_event}
use Rattle.replay_run.specs.World.{World}
use Rattle.replay_run.specs.Acting.{event_at, event_for}
use Rattle.replay_run.specs.Step.{Stepped, advanced, arrived_at, everyone, floor_of, give_arrivals, given_at, given_over, has_all_due, next_for, step, taken_at, taken_for, tick_all, ticked_over, reported_arrived, unless_done}
use Rattle.replay_run.specs.Over.{GetsOn, left}
use Rattle.replay_run.specs.Play.{run_for, start_of, steps_of}
use Rattle.replica_seat.specs.declared.seat.Envelope.{Envelope}

-- the arrival list of each replica
abbrev pub lists_in : World → List (List Tx)
lists_in w = map (λ r. r.feed.txs) w.replicas

-- the counts, what is due and the arrival lists are those of before
pub record Keeps (old new : World) : Type 0 where
  pub turns : new.turns ≡ old.turns
  pub ticks : new.ticks ≡ old.ticks
  pub due : new.due ≡ old.due
  pub lists : lists_in new ≡ lists_in old

keeps_both : (a b c : World) → Keeps a b → Keeps b c → Keeps a c
keeps_both a b c p q = record { turns = q.turns ∙ p.turns; ticks = q.ticks ∙ p.ticks; due = q.due ∙ p.due; lists = q.lists ∙ p.lists }

-- a replica is exchanged for one with the same arrival list
list_stays : (replicas : List Replica) (at : ℕ) (r s : Replica) → slice_get replicas at ≡ Some r → s.feed.txs ≡ r.feed.txs
    → map (λ r. r.feed.txs) (slice_set replicas at s) ≡ map (λ r. r.feed.txs) replicas
list_stays [] at r s found same = refl
list_stays (x ∷ replicas) zero r s found same =
    let is : x ≡ r = cc in
    ap (λ (txs : List Tx). txs ∷ map (λ r. r.feed.txs) replicas) (same ∙ ap (λ (r : Replica). r.feed.txs) (sym is))
list_stays (x ∷ replicas) (suc at) r s found same = ap (λ (lists : List (List Tx)). x.feed.txs ∷ lists) (list_stays replicas at r s found same)

feed_stays : (fits : Check) (plan : Plan) (at : ℕ) (r : Replica) (queue : List Envelope) (event : Event)
    → (after_event fits plan at r queue event).replica.feed.txs ≡ r.feed.txs
unfolding after_event
feed_stays fits plan at r queue event = elim (cases_Bool (is_among plan.faulty at)) [
  | inl holds_so ↦ rw holds_so refl
  | inr fails_so ↦ rw fails_so refl
]

event_keeps_for : (fits : Check) (plan : Plan) (w : World) (at : ℕ) (event : Event) (r : Option Replica) → slice_get w.replicas at ≡ r
    → Keeps w (event_for fits plan w at event r)
event_keeps_for fits plan w at event None is = record { turns = refl; ticks = refl; due = refl; lists = refl }
event_keeps_for fits plan w at event (Some r) is = record {
  turns = refl;
  ticks = refl;
  due = refl;
  lists = list_stays w.replicas at r (after_event fits plan at r w.queue event).replica is (feed_stays fits plan at r w.queue event);
}

pub event_keeps : (fits : Check) (plan : Plan) (w : World) (at : ℕ) (event : Event) → Keeps w (event_at fits plan w at event)
unfolding event_at
event_keeps fits plan w at event = event_keeps_for fits plan w at event (slice_get w.replicas at) refl

reported_keeps : (fits : Check) (plan : Plan) (w : World) (at : ℕ) (list : List Tx) → Keeps w (reported_arrived fits plan w at list)
reported_keeps fits plan w at [] = record { turns = refl; ticks = refl; due = refl; lists = refl }
reported_keeps fits plan w at (t ∷ ts) = event_keeps fits plan w at (Arrived (t ∷ ts))

taken_keeps : (w : World) (at : ℕ) (r : Option Replica) → slice_get w.replicas at ≡ r → Keeps w (taken_for w at r)
taken_keeps w at None is = record { turns = refl; ticks = refl; due = refl; lists = refl }
taken_keeps w at (Some r) is = record {
  turns = refl;
  ticks = refl;
  due = refl;
  lists = list_stays w.replicas at r (record r { feed = after_giving w.turns r.feed }) is refl;
}

taken_at_keeps : (w : World) (at : ℕ) → Keeps w (taken_at w at)
unfolding taken_at
taken_at_keeps w at = taken_keeps w at (slice_get w.replicas at) refl

given_keeps : (fits : Check) (plan : Plan) (w : World) (replicas : List ℕ) → Keeps w (given_over fits plan w replicas)
given_keeps fits plan w [] = record { turns = refl; ticks = refl; due = refl; lists = refl }
given_keeps fits plan w (at ∷ replicas) =
    keeps_both w (given_at fits plan w at) (given_over fits plan (given_at fits plan w at) replicas)
    (keeps_both w (taken_at w at) (given_at fits plan w at) (taken_at_keeps w at) (reported_keeps fits plan (taken_at w at) at (arrived_at w at)))
    (given_keeps fits plan (given_at fits plan w at) replicas)

ticked_keeps : (fits : Check) (plan : Plan) (floor : ℕ) (w : World) (replicas : List ℕ) → Keeps w (ticked_over fits plan floor w replicas)
ticked_keeps fits plan floor w [] = record { turns = refl; ticks = refl; due = refl; lists = refl }
ticked_keeps fits plan floor w (at ∷ replicas) =
    let next = event_at fits plan w at (Tick floor) in
    keeps_both w next (ticked_over fits plan floor next replicas) (event_keeps fits plan w at (Tick floor)) (ticked_keeps fits plan floor next replicas)

pub arrivals_keep : (fits : Check) (plan : Plan) (w : World) → Keeps w (give_arrivals fits plan w)
unfolding give_arrivals
arrivals_keep fits plan w = given_keeps fits plan w (everyone plan)

pub ticks_keep : (fits : Check) (plan : Plan) (w : World) → Keeps w (tick_all fits plan w)
unfolding tick_all
ticks_keep fits plan w = ticked_keeps fits plan (floor_of plan w) w (everyone plan)

-- a step after which the run continues leaves fewer
abbrev pub Falls : Plan → World → Stepped → Type 0
Falls plan w s = s.goes_on ≡ true → left plan s.world < left plan w

next_falls : (fits : Check) (plan : Plan) (w : World) (queue : List Envelope) → w.turns < plan.turns → Falls plan w (next_for fits plan w queue)
next_falls fits plan w (e ∷ rest) h =
    let k = event_keeps fits plan (record w { queue = rest; turns = w.turns + 1 }) e.to (Deliver e.from e.bytes) in
    λ on. omega (arith, h, k.turns, k.ticks)
next_falls fits plan w [] h =
    elim (cases_Bool (nat_le plan.ticks w.ticks)) [
      | inl holds_so ↦ rw holds_so (λ on. cc)
      | inr fails_so ↦
          let some : w.ticks < plan.ticks = grind (arith, nat_tests) in
          let k = ticks_keep fits plan (record w { ticks = w.ticks + 1 }) in
          rw fails_so (λ on. omega (arith, some, k.turns, k.ticks))
    ]

advanced_falls : (fits : Check) (plan : Plan) (w : World) → Falls plan w (advanced fits plan w)
unfolding advanced
advanced_falls fits plan w =
    elim (cases_Bool (nat_le plan.turns w.turns)) [
      | inl holds_so ↦ rw holds_so (λ on. cc)
      | inr fails_so ↦
          let some : w.turns < plan.turns = grind (arith, nat_tests) in
          rw fails_so (next_falls fits plan w w.queue some)
    ]

unless_falls : (fits : Check) (plan : Plan) (w : World) → Falls plan w (unless_done fits plan w)
unless_falls fits plan w =
    elim (cases_Bool (has_all_due plan w)) [
      | inl holds_so ↦ rw holds_so (λ on. cc)
      | inr fails_so ↦ rw fails_so (advanced_falls fits plan w)
    ]

pub step_falls : (fits : Check) (plan : Plan) (w : World) → Falls plan w (step fits plan w)
unfolding step
step_falls fits plan w on =
    let k = arrivals_keep fits plan w in
    let f = unless_falls fits plan (give_arrivals fits plan w) on in
    omega (arith, k.turns, k.ticks, f)

-- no step takes turns back, and the last one has none
record CountsOn (w : World) (s : Stepped) : Type 0 where
  pub reached : w.turns ≤ s.world.turns
  pub last : s.goes_on ≡ false → s.world.turns ≡ w.turns

next_counts : (fits : Check) (plan : Plan) (w : World) (queue : List Envelope) → CountsOn w (next_for fits plan w queue)
next_counts fits plan w (e ∷ rest) =
    let k = event_keeps fits plan (record w { queue = rest; turns = w.turns + 1 }) e.to (Deliver e.from e.bytes) in
    record { reached = omega (arith, k.turns); last = λ off. absurd (cc) }
next_counts fits plan w [] =
    elim (cases_Bool (nat_le plan.ticks w.ticks)) [
      | inl holds_so ↦ rw holds_so (record { reached = omega arith; last = λ off. refl })
      | inr fails_so ↦
          let k = ticks_keep fits plan (record w { ticks = w.ticks + 1 }) in
          rw fails_so (record { reached = omega (arith, k.turns); last = λ off. absurd (cc) })
    ]

advanced_counts : (fits : Check) (plan : Plan) (w : World) → CountsOn w (advanced fits plan w)
unfolding advanced
advanced_counts fits plan w =
    elim (cases_Bool (nat_le plan.turns w.turns)) [
      | inl holds_so ↦ rw holds_so (record { reached = omega arith; last = λ off. refl })
      | inr fails_so ↦ rw fails_so (next_counts fits plan w w.queue)
    ]

unless_counts : (fits : Check) (plan : Plan) (w : World) → CountsOn w (unless_done fits plan w)
unless_counts fits plan w =
    elim (cases_Bool (has_all_due plan w)) [
      | inl holds_so ↦ rw holds_so (record { reached = omega arith; last = λ off. refl })
      | inr fails_so ↦ rw fails_so (advanced_counts fits plan w)
    ]

step_counts : (fits : Check) (plan : Plan) (w : World) → CountsOn w (step fits plan w)
unfolding step
step_counts fits plan w =
    let k = arrivals_keep fits plan w in
    let c = unless_counts fits plan (give_arrivals fits plan w) in
    record { reached = omega (arith, k.turns, c.reached); last = λ off. c.last off ∙ k.turns }

pub step_gets_on : (fits : Check) (plan : Plan) (w : World) → GetsOn plan w (step fits plan w)
step_gets_on fits plan w =
    let c = step_counts fits plan w in
    record { reached = c.reached; last = c.last; fewer = step_falls fits plan w }

-- with more steps than are left, the run is the same
pub run_ends : (fits : Check) (plan : Plan) (steps : ℕ) (w : World) (more : ℕ) → left plan w < steps
    → run_for fits plan w (steps + more) ≡ run_for fits plan w steps
run_ends fits plan zero w more h = absurd (omega (arith, h))
run_ends fits plan (suc steps) w more h =
    let e : suc steps + more ≡ suc (steps + more) = omega arith in
    elim (cases_Bool (step fits plan w).goes_on) [
      | inl on ↦
          let falls = step_falls fits plan w on in
          let rest = run_ends fits plan steps (step fits plan w).world more (omega (arith, h, falls)) in
          ap (run_for fits plan w) e ∙ rw on rest
      | inr off ↦ ap (run_for fits plan w) e ∙ rw off refl
    ]

pub start_ends : (fits : Check) (plan : Plan) (sealers : List Signer) (more : ℕ)
    → run_for fits plan (start_of plan sealers) (steps_of plan + more) ≡ run_for fits plan (start_of plan sealers) (steps_of plan)
unfolding start_of
start_ends fits plan sealers more = run_ends fits plan (steps_of plan) (start_of plan sealers) more (omega arith)
