-- Events of a run without faulty replicas, links and deeds, and its journals, which only grow.
use Rattle.std.proofs.Common.{◌≡◌, ℕ, zero, suc, ◌+◌, ◌<◌, List, [], ◌∷◌, ◌++◌, length, map, Bool, true, false, Option, Some, None, nat_le, refl, sym, ap, subst, ◌∙◌, inl, inr, ◌⊎◌, arith, append_assoc}
use Rattle.std.specs.Prelude.{slice_get, slice_set, if◌then◌else◌}
use Rattle.std.specs.List.{fold}
use Rattle.std.proofs.lemmas.List.{append-nil}
use Rattle.seq_base.specs.declared.message.Outgoing.{Outgoing}
use Rattle.seq_base.specs.declared.tx.Tx.{Tx}
use Rattle.plan_text.specs.declared.plan.Plan.{Plan}
use Rattle.fault_script.specs.Passing.{Link, given_by, passed}
use Rattle.node_core.specs.declared.event.Event.{Event}
use Rattle.node_core.specs.declared.event.Event.TheVariants.{Arrived, Deliver, Tick}
use Rattle.node_core.specs.declared.entry.Entry.{Entry}
use Rattle.node_core.specs.Reported.{Outcome}
use Rattle.node_core.specs.Rows.{Check}
use Rattle.node_core.specs.Turn.{turn_of}
use Rattle.replica_seat.specs.declared.seat.Envelope.{Envelope}
use Rattle.replica_seat.specs.Feed.{after_giving}
use Rattle.replica_seat.specs.Seats.{Replica}
use Rattle.replay_run.specs.World.{World}
use Rattle.replica_seat.specs.Acting.{Way, way, sent, sent_all, after_event}
use Rattle.replay_run.specs.Acting.{event_for, event_at}
use Rattle.replay_run.specs.Step.{taken_at, arrived_at, reported_arrived, taken_for, given_at, give_arrivals, everyone, has_all_due, ticked_over, floor_of, tick_all, next_for, advanced, step, ended, going_on}
use Rattle.replay_run.specs.Play.{run_for}
use Rattle.round_rules.proofs.Places.{found_at, get_other, get_set, length_set, set_cases}
use Rattle.std.proofs.lemmas.Bool.{cases_eq}

-- ---- links without faults

pub record IsClear (link : Link) : Type 0 where
  pub script : link.script ≡ []
  pub held : link.held ≡ []

pub given_clear : (link : Link) (bytes : List ℕ) → IsClear link → given_by link bytes ≡ bytes ∷ []
unfolding given_by
given_clear link bytes clear = rw (clear.script, clear.held)

pub passed_clear : (link : Link) (bytes : List ℕ) → IsClear link → IsClear (passed link bytes)
unfolding passed
passed_clear link bytes clear = record { script = clear.script; held = rw (clear.script, clear.held) }

pub record AreClear (n : ℕ) (links : List Link) : Type 0 where
  pub count : length links ≡ n
  pub each : (k : ℕ) (link : Link) → slice_get links k ≡ Some link → IsClear link

-- sends to replicas
abbrev pub AreWithin : ℕ → List Outgoing → Type 0
AreWithin n [] = Unit {0}
AreWithin n (s ∷ sends) = (s.to < n) × AreWithin n sends

-- the envelope of a send
abbrev pub envelope : ℕ → Outgoing → Envelope
envelope from s = record { from = from; to = s.to; bytes = s.bytes }

-- the links after them, and the queue
pub record Passed (n from : ℕ) (queue : List Envelope) (sends : List Outgoing) (w : Way) : Type 0 where
  pub links : AreClear n w.links
  pub queue_is : w.queue ≡ queue ++ map (envelope from) sends

pub pass_all : (n from : ℕ) (links : List Link) (queue : List Envelope) (sends : List Outgoing) → AreClear n links → AreWithin n sends
    → Passed n from queue sends (fold (sent from) (way links queue) sends)
pass_all n from links queue [] clear within = record { links = clear; queue_is = sym (append-nil queue) }
pass_all n from links queue (s ∷ sends) clear within =
    let (link, found) = found_at links s.to (omega (arith, clear.count, within.0)) in
    let one : sent from (way links queue) s ≡ way (slice_set links s.to (passed link s.bytes)) (queue ++ envelope from s ∷ []) =
    rw (found, given_clear link s.bytes (clear.each s.to link found)) in
    let rest : Passed n from (queue ++ envelope from s ∷ []) sends
    (fold (sent from) (way (slice_set links s.to (passed link s.bytes)) (queue ++ envelope from s ∷ [])) sends) =
    pass_all n from (slice_set links s.to (passed link s.bytes)) (queue ++ envelope from s ∷ []) sends
    (record {
      count = length_set links s.to (passed link s.bytes) ∙ clear.count;
      each = λ k x at. elim (set_cases links s.to k (passed link s.bytes) x at) [
        | inl p ↦ subst IsClear p.1 (passed_clear link s.bytes (clear.each s.to link found))
        | inr p ↦ clear.each k x p.1
      ];
    })
    within.1 in
    subst (λ (w : Way). Passed n from queue (s ∷ sends) (fold (sent from) w sends)) (sym one)
    (record { links = rest.links; queue_is = rest.queue_is ∙ append_assoc queue (envelope from s ∷ []) (map (envelope from) sends) })

-- ---- an event

-- a replica after an event
abbrev pub following : Replica → Event → Outcome → List Link → Replica
following r e o links = record r { state = o.state; journal = r.journal ++ record { event = e; turned = o.reported } ∷ []; links = links }

abbrev pub world_after : World → ℕ → Replica → Event → Outcome → Way → World
world_after w at r e o passed = record w { replicas = slice_set w.replicas at (following r e o passed.links); queue = passed.queue }

-- ---- journals grow

-- the replica is there still, with a longer journal
pub record Grew (now later : World) : Type 0 where
  pub each : (i : ℕ) (r : Replica) → slice_get now.replicas i ≡ Some r
      → (x : Replica) × (more : List Entry) × (slice_get later.replicas i ≡ Some x) × (x.journal ≡ r.journal ++ more)

pub grew_same : (w : World) → Grew w w
grew_same w = record { each = λ i r found. (r, [], found, sym (append-nil r.journal)) }

pub grew_on : (a b c : World) → Grew a b → Grew b c → Grew a c
grew_on a b c x y = record {
  each = λ i r found.
      let (r1, more1, found1, is1) = x.each i r found in
      let (r2, more2, found2, is2) = y.each i r1 found1 in
      (r2, more1 ++ more2, found2, is2 ∙ ap (λ (es : List Entry). es ++ more2) is1 ∙ append_assoc r.journal more1 more2);
}

grew_set : (w : World) (at : ℕ) (old new : Replica) (more : List Entry) (v : World) → slice_get w.replicas at ≡ Some old
    → new.journal ≡ old.journal ++ more → v.replicas ≡ slice_set w.replicas at new → Grew w v
grew_set w at old new more v found is set = record {
  each = λ i r at_i. by i r at_i (cases_eq at i);
}
  where
    by : (i : ℕ) (r : Replica) → slice_get w.replicas i ≡ Some r → (at ≡ i) ⊎ (at ≡ i → ⊥)
        → (x : Replica) × (more : List Entry) × (slice_get v.replicas i ≡ Some x) × (x.journal ≡ r.journal ++ more)
    by i r at_i (inl same) =
        let one : Some old ≡ Some r = sym found ∙ ap (slice_get w.replicas) same ∙ at_i in
        let is_old : old ≡ r = cc in (
          new,
          more,
          ap (λ (rs : List Replica). slice_get rs i) set ∙ ap (slice_get (slice_set w.replicas at new)) (sym same) ∙ get_set w.replicas at new old found,
          is ∙ ap (λ (x : Replica). x.journal ++ more) is_old,
        )
    by i r at_i (inr other) =
        (r, [], ap (λ (rs : List Replica). slice_get rs i) set ∙ get_other w.replicas at i new other ∙ at_i, sym (append-nil r.journal))

module _ (fits : Check) (plan : Plan) (faulty : plan.faulty ≡ []) where
  abbrev pub outcome : Replica → Event → Outcome
  outcome r e = turn_of fits r.gives r.state e

  pub event_is : (w : World) (at : ℕ) (e : Event) (r : Replica) → slice_get w.replicas at ≡ Some r
      → event_at fits plan w at e ≡ world_after w at r e (outcome r e) (sent_all at (way r.links w.queue) (outcome r e).reported.sends)
  unfolding event_at after_event
  event_is w at e r found = rw (found, faulty)

  pub grew_event : (w : World) (at : ℕ) (e : Event) → Grew w (event_at fits plan w at e)
  unfolding event_at
  grew_event w at e = by (slice_get w.replicas at) refl
    where
      by : (o : Option Replica) → slice_get w.replicas at ≡ o → Grew w (event_for fits plan w at e o)
      by None is = grew_same w
      by (Some r) is =
          let o : Outcome = outcome r e in
          let passed : Way = sent_all at (way r.links w.queue) o.reported.sends in
          let same : event_for fits plan w at e (Some r) ≡ world_after w at r e o passed = sym (ap (event_for fits plan w at e) is) ∙ event_is w at e r is in
          subst (Grew w) (sym same) (grew_set w at r (following r e o passed.links) (record { event = e; turned = o.reported } ∷ [])
          (world_after w at r e o passed) is refl refl)

  grew_taken : (w : World) (at : ℕ) → Grew w (taken_at w at)
  unfolding taken_at
  grew_taken w at = by (slice_get w.replicas at) refl
    where
      by : (o : Option Replica) → slice_get w.replicas at ≡ o → Grew w (taken_for w at o)
      by None is = grew_same w
      by (Some r) is = grew_set w at r (record r { feed = after_giving w.turns r.feed }) [] (taken_for w at (Some r)) is (sym (append-nil r.journal)) refl

  grew_given : (w : World) (at : ℕ) → Grew w (given_at fits plan w at)
  grew_given w at = by (arrived_at w at)
    where
      by : (list : List Tx) → Grew w (reported_arrived fits plan (taken_at w at) at list)
      by [] = grew_taken w at
      by (t ∷ ts) = grew_on w (taken_at w at) _ (grew_taken w at) (grew_event (taken_at w at) at (Arrived (t ∷ ts)))

  grew_gives : (w : World) (replicas : List ℕ) → Grew w (fold (given_at fits plan) w replicas)
  grew_gives w [] = grew_same w
  grew_gives w (at ∷ replicas) = grew_on w (given_at fits plan w at) _ (grew_given w at) (grew_gives (given_at fits plan w at) replicas)

  pub grew_ticks : (floor : ℕ) (w : World) (replicas : List ℕ) → Grew w (ticked_over fits plan floor w replicas)
  grew_ticks floor w [] = grew_same w
  grew_ticks floor w (at ∷ replicas) = grew_on w (event_at fits plan w at (Tick floor)) _ (grew_event w at (Tick floor))
      (grew_ticks floor (event_at fits plan w at (Tick floor)) replicas)

  pub grew_step : (w : World) → Grew w (step fits plan w).world
  unfolding step give_arrivals advanced tick_all
  grew_step w = grew_on w (give_arrivals fits plan w) _ (grew_gives w (everyone plan)) (ends (has_all_due plan (give_arrivals fits plan w)))
    where
      v : World
      v = give_arrivals fits plan w

      next : (queue : List Envelope) → Grew v (next_for fits plan v queue).world
      next [] = by (nat_le plan.ticks v.ticks)
        where
          by : (t : Bool) → Grew v (if t then ended v else going_on (tick_all fits plan (record v { ticks = v.ticks + 1 }))).world
          by true = grew_same v
          by false = record { each = (grew_ticks (floor_of plan (record v { ticks = v.ticks + 1 })) (record v { ticks = v.ticks + 1 }) (everyone plan)).each }
      next (e ∷ rest) = record { each = (grew_event (record v { queue = rest; turns = v.turns + 1 }) e.to (Deliver e.from e.bytes)).each }

      goes : (t : Bool) → Grew v (if t then ended v else next_for fits plan v v.queue).world
      goes true = grew_same v
      goes false = next v.queue

      ends : (t : Bool) → Grew v (if t then ended v else advanced fits plan v).world
      ends true = grew_same v
      ends false = goes (nat_le plan.turns v.turns)

  pub grew_run : (w : World) (steps : ℕ) → Grew w (run_for fits plan w steps)
  grew_run w zero = grew_same w
  grew_run w (suc steps) = by (step fits plan w).goes_on (grew_run (step fits plan w).world steps)
    where
      by : (t : Bool) → Grew (step fits plan w).world (run_for fits plan (step fits plan w).world steps)
          → Grew w (if t then run_for fits plan (step fits plan w).world steps else (step fits plan w).world)
      by true later = grew_on w (step fits plan w).world _ (grew_step w) later
      by false later = grew_step w
