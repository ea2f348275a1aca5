-- What each step of an exact run preserves: the counts of turns and ticks, and what each replica holds.
use Rattle.std.proofs.Common.{◌≡◌, ◌∙◌, ◌<◌, ◌≤◌, ◌+◌, ◌^◌, ℕ, zero, suc, List, [], ◌∷◌, Bool, true, false, length, map, max, nat_le, Option, Some, None, refl, subst, inl, inr, if◌then◌else◌, arith}
use Rattle.std.specs.Prelude.{All, slice_get, slice_set}
use Rattle.std.specs.List.{fold}
use Rattle.std.specs.Option.{option_map_or}
use Rattle.std.proofs.lemmas.Bool.{leb-false}
use Rattle.std.proofs.lemmas.List.{length-map}
use Rattle.std.proofs.lemmas.List.Elements.{All-append, All-cons, All-head, All-nil, All-tail}
use Rattle.seq_base.specs.declared.tx.Tx.{Tx}
use Rattle.count_set.specs.Sets.{is_among}
use Rattle.fault_script.specs.Sealing.{Signer}
use Rattle.plan_text.specs.declared.plan.Plan.{Plan}
use Rattle.node_core.specs.Rows.{Check}
use Rattle.node_core.specs.declared.event.Event.{Event}
use Rattle.node_core.specs.declared.event.Event.TheVariants.{Arrived, Deliver, Tick}
use Rattle.node_core.specs.declared.entry.Entry.{Entry}
use Rattle.replica_seat.specs.Acting.{after_event}
use Rattle.replica_seat.specs.Arrivals.{IsArrivalList}
use Rattle.replica_seat.specs.Feed.{after_giving, feed_of, timed_for, txs_of}
use Rattle.replica_seat.specs.Opening.{fresh_replica}
use Rattle.replica_seat.specs.Seats.{Replica}
use Rattle.replica_seat.specs.declared.seat.Envelope.{Envelope}
use Rattle.replay_run.specs.Acting.{event_at, event_for}
use Rattle.replay_run.specs.Play.{run_for, start_of}
use Rattle.replay_run.specs.Step.{advanced, arrived_at, ended, everyone, floor_of, floor_over, give_arrivals, given_at, going_on, has_all_due, next_for, replica_view, step, taken_at, taken_for, tick_all, ticked_over, reported_arrived}
use Rattle.replay_run.specs.World.{World}
use Rattle.round_rules.proofs.Places.{length_set, set_cases}
use Rattle.trace_laws.specs.Form.{HasShortFloor}
use Rattle.trace_laws.proofs.Replicas.{IsBounded, SealedTwo, bounded, feed_kept, journal_grows}

abbrev pub ShortFloor : Entry → Type 0
ShortFloor e = HasShortFloor e.event

-- a replica of an exact run: its arrival list is one, and the floors of its ticks are short
pub record IsHeld (plan : Plan) (r : Replica) : Type 0 where
  pub bounded : IsBounded plan r
  pub list : IsArrivalList r.feed.txs
  pub floors : All ShortFloor r.journal

module _ (fits : Check) (plan : Plan) where
  event_held : (at : ℕ) (r : Replica) (queue : List Envelope) (e : Event) → HasShortFloor e → IsHeld plan r
      → IsHeld plan (after_event fits plan at r queue e).replica
  event_held at r queue e low h =
      let grows = journal_grows fits plan at r queue e in
      record {
        bounded = bounded fits plan at r queue e h.bounded;
        list = rw (feed_kept fits plan at r queue e) h.list;
        floors = rw grows.1 (All-append ShortFloor r.journal (record { event = e; turned = grows.0 } ∷ []) h.floors
            (All-cons ShortFloor (record { event = e; turned = grows.0 }) [] low (All-nil ShortFloor)));
      }

  -- ---- worlds

  pub record Holds (w : World) : Type 0 where
    pub count : length w.replicas ≡ plan.setting.n
    pub each : (at : ℕ) (r : Replica) → slice_get w.replicas at ≡ Some r → IsHeld plan r
    pub turns : w.turns ≤ plan.turns
    pub ticks : w.ticks ≤ plan.ticks

  -- one replica is replaced
  set_held : (replicas : List Replica) (at : ℕ) (x : Replica) → ((k : ℕ) (r : Replica) → slice_get replicas k ≡ Some r → IsHeld plan r) → IsHeld plan x
      → (k : ℕ) (r : Replica) → slice_get (slice_set replicas at x) k ≡ Some r → IsHeld plan r
  set_held replicas at x each held k r found = elim (set_cases replicas at k x r found) [
    | inl p ↦ subst (IsHeld plan) p.1 held
    | inr p ↦ each k r p.1
  ]

  event_holds : (w : World) (at : ℕ) (e : Event) → HasShortFloor e → Holds w → Holds (event_at fits plan w at e)
  unfolding event_at
  event_holds w at e low h = by (slice_get w.replicas at) (h.each at)
    where
      by : (o : Option Replica) → ((r : Replica) → o ≡ Some r → IsHeld plan r) → Holds (event_for fits plan w at e o)
      by None each = h
      by (Some r) each = record {
        count = length_set w.replicas at (after_event fits plan at r w.queue e).replica ∙ h.count;
        each = set_held w.replicas at (after_event fits plan at r w.queue e).replica h.each (event_held at r w.queue e low (each r refl));
        turns = h.turns;
        ticks = h.ticks;
      }

  reported_holds : (w : World) (at : ℕ) (list : List Tx) → Holds w → Holds (reported_arrived fits plan w at list)
  reported_holds w at [] h = h
  reported_holds w at (t ∷ ts) h = event_holds w at (Arrived (t ∷ ts)) tt h

  taken_holds : (w : World) (at : ℕ) → Holds w → Holds (taken_at w at)
  unfolding taken_at
  taken_holds w at h = by (slice_get w.replicas at) (h.each at)
    where
      by : (o : Option Replica) → ((r : Replica) → o ≡ Some r → IsHeld plan r) → Holds (taken_for w at o)
      by None each = h
      by (Some r) each = record {
        count = length_set w.replicas at (record r { feed = after_giving w.turns r.feed }) ∙ h.count;
        each = set_held w.replicas at (record r { feed = after_giving w.turns r.feed }) h.each (let own = each r refl in
            record {
              bounded = record { bounds = own.bounded.bounds; views = own.bounded.views; few = own.bounded.few };
              list = own.list;
              floors = own.floors;
            });
        turns = h.turns;
        ticks = h.ticks;
      }

  gives_hold : (w : World) (replicas : List ℕ) → Holds w → Holds (fold (given_at fits plan) w replicas)
  gives_hold w [] h = h
  gives_hold w (at ∷ replicas) h = gives_hold (given_at fits plan w at) replicas (reported_holds (taken_at w at) at (arrived_at w at) (taken_holds w at h))

  -- ---- ticks

  view_low : (w : World) (at : ℕ) → Holds w → replica_view w at ≤ plan.views
  view_low w at h = by (slice_get w.replicas at) (h.each at)
    where
      by : (o : Option Replica) → ((r : Replica) → o ≡ Some r → IsHeld plan r) → option_map_or (λ r. r.state.known.view) o 0 ≤ plan.views
      by None each = omega arith
      by (Some r) each = let own = (each r refl).bounded in omega (arith, own.bounds.view, own.views)

  floor_low : (w : World) (floor : ℕ) (replicas : List ℕ) → Holds w → floor ≤ plan.views → floor_over plan w floor replicas ≤ plan.views
  floor_low w floor [] h low = low
  floor_low w floor (at ∷ replicas) h low =
      floor_low w (if is_among plan.faulty at then floor else max (replica_view w at) floor) replicas h (by (is_among plan.faulty at))
    where
      by : (t : Bool) → (if t then floor else max (replica_view w at) floor) ≤ plan.views
      by true = low
      by false = omega (arith, low, view_low w at h)

  ticks_hold : (floor : ℕ) (w : World) (replicas : List ℕ) → floor < 2 ^ 32 → Holds w → Holds (ticked_over fits plan floor w replicas)
  ticks_hold floor w [] low h = h
  ticks_hold floor w (at ∷ replicas) low h = ticks_hold floor (event_at fits plan w at (Tick floor)) replicas low (event_holds w at (Tick floor) low h)

  -- ---- steps

  module _ (few_views : plan.views ≤ 4000) where
    next_holds : (w : World) (queue : List Envelope) → w.turns < plan.turns → Holds w → Holds (next_for fits plan w queue).world
    unfolding tick_all floor_of
    next_holds w (e ∷ rest) more h =
        event_holds (record w { queue = rest; turns = w.turns + 1 }) e.to (Deliver e.from e.bytes) tt
        (record { count = h.count; each = h.each; turns = omega (arith, more); ticks = h.ticks })
    next_holds w [] more h = by (nat_le plan.ticks w.ticks) refl
      where
        by : (t : Bool) → nat_le plan.ticks w.ticks ≡ t → Holds (if t then ended w else going_on (tick_all fits plan (record w { ticks = w.ticks + 1 }))).world
        by true is = h
        by false is =
            let fewer : w.ticks < plan.ticks = leb-false plan.ticks w.ticks is in
            let now : World = record w { ticks = w.ticks + 1 } in
            let held : Holds now = record { count = h.count; each = h.each; turns = h.turns; ticks = omega (arith, fewer) } in
            let low : floor_over plan now 0 (everyone plan) ≤ plan.views = floor_low now 0 (everyone plan) held (omega arith) in
            ticks_hold (floor_over plan now 0 (everyone plan)) now (everyone plan) (omega (arith, low, few_views)) held

    step_holds : (w : World) → Holds w → Holds (step fits plan w).world
    unfolding step give_arrivals advanced
    step_holds w h = ends (has_all_due plan (give_arrivals fits plan w)) (gives_hold w (everyone plan) h)
      where
        goes : (v : World) → Holds v → (t : Bool) → nat_le plan.turns v.turns ≡ t → Holds (if t then ended v else next_for fits plan v v.queue).world
        goes v held true is = held
        goes v held false is = next_holds v v.queue (leb-false plan.turns v.turns is) held

        ends : (t : Bool) → Holds (give_arrivals fits plan w)
            → Holds (if t then ended (give_arrivals fits plan w) else advanced fits plan (give_arrivals fits plan w)).world
        ends true held = held
        ends false held = goes (give_arrivals fits plan w) held (nat_le plan.turns (give_arrivals fits plan w).turns) refl

    run_holds : (w : World) (steps : ℕ) → Holds w → Holds (run_for fits plan w steps)
    run_holds w zero h = h
    run_holds w (suc steps) h = by (step fits plan w).goes_on (run_holds (step fits plan w).world steps (step_holds w h))
      where
        by : (t : Bool) → Holds (run_for fits plan (step fits plan w).world steps)
            → Holds (if t then run_for fits plan (step fits plan w).world steps else (step fits plan w).world)
        by true later = later
        by false later = step_holds w h

  -- ---- the start

  module _ (few_views : plan.views ≤ 4000) (lists : (r : ℕ) → r < plan.setting.n → IsArrivalList (txs_of (timed_for plan r))) where
    fresh_held : (s : Signer) → s.replica < plan.setting.n → IsHeld plan (fresh_replica plan s)
    unfolding feed_of
    fresh_held s below = record {
      bounded = record {
        bounds =
            record {
              ordered = omega arith;
              proposed = omega arith;
              view = omega arith;
              asked = omega arith;
              voted = omega arith;
              wide = omega (arith, few_views);
            };
        views = refl;
        few = All-nil SealedTwo;
      };
      list = lists s.replica below;
      floors = All-nil ShortFloor;
    }

    all_fresh : (sealers : List Signer) → All (λ s. s.replica < plan.setting.n) sealers → (at : ℕ) (r : Replica)
        → slice_get (map (fresh_replica plan) sealers) at ≡ Some r → IsHeld plan r
    all_fresh [] below at r found = absurd (cc)
    all_fresh (s ∷ sealers) below zero r found =
        let same : fresh_replica plan s ≡ r = cc in
        subst (IsHeld plan) same (fresh_held s (All-head (λ x. x.replica < plan.setting.n) s sealers below))
    all_fresh (s ∷ sealers) below (suc at) r found = all_fresh sealers (All-tail (λ x. x.replica < plan.setting.n) s sealers below) at r found

    pub ends_held : (sealers : List Signer) (steps : ℕ) → length sealers ≡ plan.setting.n → All (λ s. s.replica < plan.setting.n) sealers
        → Holds (run_for fits plan (start_of plan sealers) steps)
    unfolding start_of
    ends_held sealers steps count below = run_holds few_views (start_of plan sealers) steps (record {
      count = length-map sealers (fresh_replica plan) ∙ count;
      each = all_fresh sealers below;
      turns = omega arith;
      ticks = omega arith;
    })
