-- What holds of each world of a run.
use Rattle.std.proofs.Common.{◌≡◌, ℕ, zero, suc, ◌+◌, ◌<◌, List, [], ◌∷◌, ◌++◌, length, map, take, drop, Bool, true, false, Option, Some, None, refl, sym, ap, subst, ◌∙◌, inl, inr, arith, append_assoc}
use Rattle.std.specs.Prelude.{All, slice_get, slice_set, if◌then◌else◌, nat_le}
use Rattle.std.specs.List.{flat_map, fold}
use Rattle.std.specs.Option.{option_map_or}
use Rattle.std.proofs.lemmas.Grind.{flat_map-append}
use Rattle.std.proofs.lemmas.List.{append-nil, length-map, map-append, take-append-drop}
use Rattle.std.proofs.lemmas.Option.{slice_get_within}
use Rattle.std.proofs.lemmas.List.Elements.{All-nil, All-cons, All-head, All-tail, All-append}
use Rattle.seq_base.specs.declared.tx.Tx.{Tx}
use Rattle.seq_base.specs.declared.message.Outgoing.{Outgoing}
use Rattle.count_set.specs.Sets.{is_among}
use Rattle.plan_text.specs.declared.plan.Plan.{Plan}
use Rattle.fault_script.specs.Passing.{Link, given_by}
use Rattle.fault_script.specs.Sealing.{Signer}
use Rattle.node_core.specs.declared.event.Event.{Event}
use Rattle.node_core.specs.declared.event.Event.TheVariants.{Arrived, Deliver, Tick}
use Rattle.node_core.specs.declared.entry.Entry.{Entry}
use Rattle.node_core.specs.State.{State, fresh_known}
use Rattle.node_core.specs.Rows.{Check}
use Rattle.node_core.specs.Turn.{turn_of}
use Rattle.replica_seat.specs.declared.seat.Envelope.{Envelope}
use Rattle.replica_seat.specs.declared.arrivals.TimedTx.{TimedTx}
use Rattle.replica_seat.specs.Feed.{feed_of, timed_for, txs_of, count_by_now, arrived, after_giving}
use Rattle.replica_seat.specs.Seats.{Replica}
use Rattle.replay_run.specs.World.{World}
use Rattle.replica_seat.specs.Acting.{Way, way, acted, sent, sent_over, sent_all, enveloped, after_event}
use Rattle.replay_run.specs.Acting.{in_world, event_for, event_at}
use Rattle.replay_run.specs.Step.{taken_at, arrived_at, reported_arrived, taken_for, given_at, give_arrivals, everyone, has_all_due, ticked_over, floor_of, tick_all, next_for, advanced, step, ended, going_on, Stepped}
use Rattle.replica_seat.specs.Opening.{fresh_replica}
use Rattle.replay_run.specs.Play.{start_of, run_for}
use Rattle.journal_rules.specs.JournalPrefixes.{arrived_by}
use Rattle.node_core.specs.Runs.{opening_state, journal_of, state_after}
use Rattle.lawful_runs.specs.Honest.{IsRun, HaveMadeNothing, capacity_at}
use Rattle.lawful_runs.specs.Lawful.{AreMadeFor}
use Rattle.replica_seat.specs.Senders.{IsFrom}
use Rattle.lawful_runs.proofs.NextEvent.{state_more, journal_more}
use Rattle.round_rules.proofs.Places.{set_cases, length_set, get_set}

-- ---- one replica

-- a replica that is a run of its node, except for this list, which was taken from what is left for it and not given yet
record Begins (fits : Check) (plan : Plan) (at capacity : ℕ) (list : List Tx) (r : Replica) : Type 0 where
  number : r.number ≡ at
  below : r.number < plan.setting.n
  list_is : r.feed.txs ≡ txs_of (timed_for plan r.number)
  events : List Event
  journal : r.journal ≡ journal_of fits r.gives (opening_state plan.setting plan.views r.number capacity) events
  state : r.state ≡ state_after fits r.gives (opening_state plan.setting plan.views r.number capacity) events
  from : All (IsFrom plan.setting.n) events
  arrived : r.feed.txs ≡ flat_map arrived_by events ++ (list ++ txs_of r.feed.left)

begins : (fits : Check) (plan : Plan) (at capacity : ℕ) (r : Replica) → IsRun fits plan at capacity r → Begins fits plan at capacity [] r
begins fits plan at capacity r run =
    record {
      number = run.number;
      below = run.below;
      list_is = run.list;
      events = run.events;
      journal = run.journal;
      state = run.state;
      from = run.from;
      arrived = run.arrived;
    }

-- the replica after an event
module _ (fits : Check) (plan : Plan) (capacity : ℕ → ℕ) where
  run_on : (at : ℕ) (r : Replica) (queue : List Envelope) (e : Event) → is_among plan.faulty at ≡ false → IsFrom plan.setting.n e
      → Begins fits plan at (capacity at) (arrived_by e) r
      → IsRun fits plan at (capacity at) (after_event fits plan at r queue e).replica
  unfolding after_event
  run_on at r queue e honest from b = rw honest (
      let start : State = opening_state plan.setting plan.views r.number (capacity at) in
      record {
        number = b.number;
        below = b.below;
        list = b.list_is;
        events = b.events ++ e ∷ [];
        journal = ap (λ (es : List Entry). es ++ record { event = e; turned = (turn_of fits r.gives r.state e).reported } ∷ []) b.journal
            ∙ ap (λ (s : State). journal_of fits r.gives start b.events ++ record { event = e; turned = (turn_of fits r.gives s e).reported } ∷ []) b.state
            ∙ sym (journal_more fits r.gives start b.events e);
        state = ap (λ (s : State). (turn_of fits r.gives s e).state) b.state ∙ sym (state_more fits r.gives start b.events e);
        from = All-append (IsFrom plan.setting.n) b.events (e ∷ []) b.from (All-cons (IsFrom plan.setting.n) e [] from (All-nil (IsFrom plan.setting.n)));
        arrived = b.arrived ∙ sym (append_assoc (flat_map arrived_by b.events) (arrived_by e) (txs_of r.feed.left))
            ∙ ap (λ (ts : List Tx). ts ++ txs_of r.feed.left)
            (sym (flat_map-append arrived_by b.events (e ∷ []) ∙ ap (λ (ts : List Tx). flat_map arrived_by b.events ++ ts) (append-nil (arrived_by e))));
      })

  -- each send is from its sender
  abbrev pub Known_senders : List Envelope → Type 0
  Known_senders queue = All (λ (x : Envelope). x.from < plan.setting.n) queue

  sends_on : (from : ℕ) (w : Way) (sends : List Outgoing) → from < plan.setting.n → Known_senders w.queue → Known_senders (fold (sent from) w sends).queue
  sends_on from w [] below all = all
  sends_on from w (s ∷ sends) below all = sends_on from (sent from w s) sends below (one (slice_get w.links s.to))
    where
      one : (o : Option Link) → Known_senders (sent_over from w s o).queue
      one None = all
      one (Some link) = All-append (λ (x : Envelope). x.from < plan.setting.n) w.queue (enveloped from s.to (given_by link s.bytes)) all
          (each (given_by link s.bytes))
        where
          each : (given : List (List ℕ)) → Known_senders (enveloped from s.to given)
          each [] = All-nil (λ (x : Envelope). x.from < plan.setting.n)
          each (bytes ∷ given) = All-cons (λ (x : Envelope). x.from < plan.setting.n) (record { from = from; to = s.to; bytes = bytes })
              (enveloped from s.to given) below (each given)

  queue_on : (at : ℕ) (r : Replica) (queue : List Envelope) (e : Event) → at < plan.setting.n → Known_senders queue
      → Known_senders (after_event fits plan at r queue e).queue
  unfolding after_event sent_all
  queue_on at r queue e below all = sends_on at (way (acted fits plan at r e).replica.links queue) (acted fits plan at r e).reported.sends below all

  -- ---- worlds

  pub record Good (w : World) : Type 0 where
    pub count : length w.replicas ≡ plan.setting.n
    pub runs : (at : ℕ) (r : Replica) → slice_get w.replicas at ≡ Some r → is_among plan.faulty at ≡ false → IsRun fits plan at (capacity at) r
    pub queue : Known_senders w.queue

  abbrev GoodAfter : Stepped → Type 0
  GoodAfter s = Good s.world

  found_below : (w : World) → Good w → (at : ℕ) (r : Replica) → slice_get w.replicas at ≡ Some r → at < plan.setting.n
  found_below w g at r found = (let inside : at < length w.replicas = slice_get_within w.replicas at r found in omega (arith, inside, g.count))

  -- A replica of the world is replaced by one with a taken list, and then given the event with that list.
  exchanged : (w : World) → Good w → (at : ℕ) (r began : Replica) (e : Event) → slice_get w.replicas at ≡ Some r → IsFrom plan.setting.n e
      → (is_among plan.faulty at ≡ false → Begins fits plan at (capacity at) (arrived_by e) began)
      → Good (in_world (record w { replicas = slice_set w.replicas at began }) at (after_event fits plan at began w.queue e))
  exchanged w g at r began e found from b = record {
    count = length_set (slice_set w.replicas at began) at (after_event fits plan at began w.queue e).replica ∙ length_set w.replicas at began ∙ g.count;
    runs = λ other x at_other honest. elim (set_cases (slice_set w.replicas at began) at other (after_event fits plan at began w.queue e).replica x at_other) [
      | inl p ↦
          let own : is_among plan.faulty at ≡ false = rw p.0 honest in
          subst (λ (k : ℕ). IsRun fits plan k (capacity k) x) p.0 (subst (IsRun fits plan at (capacity at)) p.1 (run_on at began w.queue e own from (b own)))
      | inr p ↦ elim (set_cases w.replicas at other began x p.1) [
        | inl q ↦ absurd (p.0 q.0)
        | inr q ↦ g.runs other x q.1 honest
      ]
    ];
    queue = queue_on at began w.queue e (found_below w g at r found) g.queue;
  }

  event_good : (w : World) → Good w → (at : ℕ) (e : Event) → IsFrom plan.setting.n e → arrived_by e ≡ [] → Good (event_at fits plan w at e)
  unfolding event_at
  event_good w g at e from none = by (slice_get w.replicas at) refl
    where
      by : (o : Option Replica) → slice_get w.replicas at ≡ o → Good (event_for fits plan w at e o)
      by None is = g
      by (Some r) is = record {
        count = length_set w.replicas at (after_event fits plan at r w.queue e).replica ∙ g.count;
        runs = λ other x at_other honest. elim (set_cases w.replicas at other (after_event fits plan at r w.queue e).replica x at_other) [
          | inl p ↦
              let own : is_among plan.faulty at ≡ false = rw p.0 honest in
              subst (λ (k : ℕ). IsRun fits plan k (capacity k) x) p.0
              (subst (IsRun fits plan at (capacity at)) p.1 (run_on at r w.queue e own from
              (subst (λ (ts : List Tx). Begins fits plan at (capacity at) ts r) (sym none) (begins fits plan at (capacity at) r (g.runs at r is own)))))
          | inr p ↦ g.runs other x p.1 honest
        ];
        queue = queue_on at r w.queue e (found_below w g at r is) g.queue;
      }

  -- the arrivals up to now are taken from what is left
  taken : (turns at : ℕ) (r : Replica) → IsRun fits plan at (capacity at) r
      → Begins fits plan at (capacity at) (arrived turns r.feed) (record r { feed = after_giving turns r.feed })
  taken turns at r run = record {
    number = run.number;
    below = run.below;
    list_is = run.list;
    events = run.events;
    journal = run.journal;
    state = run.state;
    from = run.from;
    arrived = run.arrived ∙ ap (λ (ts : List Tx). flat_map arrived_by run.events ++ ts)
        (ap txs_of (sym (take-append-drop (count_by_now turns r.feed.left) r.feed.left)) ∙ map-append (λ (t : TimedTx). t.tx)
        (take (count_by_now turns r.feed.left) r.feed.left) (drop (count_by_now turns r.feed.left) r.feed.left));
  }

  given_good : (w : World) (at : ℕ) → Good w → Good (given_at fits plan w at)
  unfolding event_at taken_at arrived_at
  given_good w at g = by (slice_get w.replicas at) refl
    where
      by : (o : Option Replica) → slice_get w.replicas at ≡ o
          → Good (reported_arrived fits plan (taken_for w at o) at (option_map_or (λ r. arrived w.turns r.feed) o []))
      by None is = g
      by (Some r) is = on (arrived w.turns r.feed) refl
        where
          on : (list : List Tx) → arrived w.turns r.feed ≡ list → Good (reported_arrived fits plan (taken_for w at (Some r)) at list)
          on [] none = record {
            count = length_set w.replicas at (record r { feed = after_giving w.turns r.feed }) ∙ g.count;
            runs = λ other x at_other honest. elim (set_cases w.replicas at other (record r { feed = after_giving w.turns r.feed }) x at_other) [
              | inl p ↦
                  let own : is_among plan.faulty at ≡ false = rw p.0 honest in
                  let b : Begins fits plan at (capacity at) (arrived w.turns r.feed) (record r { feed = after_giving w.turns r.feed }) =
                  taken w.turns at r (g.runs at r is own) in
                  subst (λ (k : ℕ). IsRun fits plan k (capacity k) x) p.0 (subst (IsRun fits plan at (capacity at)) p.1 (record {
                    number = b.number;
                    below = b.below;
                    list = b.list_is;
                    events = b.events;
                    journal = b.journal;
                    state = b.state;
                    from = b.from;
                    arrived = b.arrived ∙ ap (λ (ts : List Tx). flat_map arrived_by b.events ++ (ts ++ txs_of (after_giving w.turns r.feed).left)) none;
                  }))
              | inr p ↦ g.runs other x p.1 honest
            ];
            queue = g.queue;
          }
          on (t ∷ ts) some =
              let began : Replica = record r { feed = after_giving w.turns r.feed } in
              let here : slice_get (slice_set w.replicas at began) at ≡ Some began = get_set w.replicas at began r is in
              rw here (exchanged w g at r began (Arrived (t ∷ ts)) is tt
              (λ own. subst (λ (list : List Tx). Begins fits plan at (capacity at) list began) some (taken w.turns at r (g.runs at r is own))))

  gives_good : (w : World) (replicas : List ℕ) → Good w → Good (fold (given_at fits plan) w replicas)
  gives_good w [] g = g
  gives_good w (at ∷ replicas) g = gives_good (given_at fits plan w at) replicas (given_good w at g)

  ticks_good : (floor : ℕ) (w : World) (replicas : List ℕ) → Good w → Good (ticked_over fits plan floor w replicas)
  ticks_good floor w [] g = g
  ticks_good floor w (at ∷ replicas) g = ticks_good floor (event_at fits plan w at (Tick floor)) replicas (event_good w g at (Tick floor) tt refl)

  next_good : (w : World) (queue : List Envelope) → w.queue ≡ queue → Good w → Good (next_for fits plan w queue).world
  unfolding tick_all
  next_good w [] is g = by (nat_le plan.ticks w.ticks)
    where
      by : (t : Bool) → GoodAfter (if t then ended w else going_on (tick_all fits plan (record w { ticks = w.ticks + 1 })))
      by true = g
      by false = ticks_good (floor_of plan (record w { ticks = w.ticks + 1 })) (record w { ticks = w.ticks + 1 }) (everyone plan)
          (record { count = g.count; runs = g.runs; queue = g.queue })
  next_good w (e ∷ rest) is g =
      let all : Known_senders (e ∷ rest) = subst Known_senders is g.queue in
      event_good (record w { queue = rest; turns = w.turns + 1 })
      (record { count = g.count; runs = g.runs; queue = All-tail (λ (x : Envelope). x.from < plan.setting.n) e rest all })
      e.to (Deliver e.from e.bytes) (All-head (λ (x : Envelope). x.from < plan.setting.n) e rest all) refl

  step_good : (w : World) → Good w → Good (step fits plan w).world
  unfolding step give_arrivals advanced
  step_good w g = ends (has_all_due plan (give_arrivals fits plan w)) (gives_good w (everyone plan) g)
    where
      goes : (v : World) → Good v → (t : Bool) → GoodAfter (if t then ended v else next_for fits plan v v.queue)
      goes v g true = g
      goes v g false = next_good v v.queue refl g

      ends : (t : Bool) → Good (give_arrivals fits plan w)
          → GoodAfter (if t then ended (give_arrivals fits plan w) else advanced fits plan (give_arrivals fits plan w))
      ends true g = g
      ends false g = goes (give_arrivals fits plan w) g (nat_le plan.turns (give_arrivals fits plan w).turns)

  run_good : (w : World) (steps : ℕ) → Good w → Good (run_for fits plan w steps)
  run_good w zero g = g
  run_good w (suc steps) g = by (step fits plan w).goes_on (run_good (step fits plan w).world steps (step_good w g))
    where
      by : (t : Bool) → Good (run_for fits plan (step fits plan w).world steps)
          → Good (if t then run_for fits plan (step fits plan w).world steps else (step fits plan w).world)
      by true later = later
      by false later = step_good w g

  -- ---- the start

  fresh_run : (at : ℕ) (s : Signer) → s.replica ≡ at → s.replica < plan.setting.n → s.made ≡ 0 → IsRun fits plan at s.capacity (fresh_replica plan s)
  unfolding feed_of
  fresh_run at s own below none = record {
    number = own;
    below = below;
    list = refl;
    events = [];
    journal = refl;
    state = ap (λ (made : ℕ). record { known = fresh_known plan.setting plan.views s.replica; made = made; capacity = s.capacity }) none;
    from = All-nil (IsFrom plan.setting.n);
    arrived = refl;
  }

fresh_runs : (fits : Check) (plan : Plan) (sealers : List Signer) (place at : ℕ) (r : Replica)
    → All (λ s. s.replica < plan.setting.n) sealers → HaveMadeNothing sealers
    → ((k : ℕ) (s : Signer) → slice_get sealers k ≡ Some s → s.replica ≡ place + k) → slice_get (map (fresh_replica plan) sealers) at ≡ Some r
    → IsRun fits plan (place + at) (capacity_at sealers at) r
fresh_runs fits plan [] place at r below none own found = absurd (cc)
fresh_runs fits plan (s ∷ sealers) place zero r below none own found =
    let same : fresh_replica plan s ≡ r = cc in
    subst (IsRun fits plan (place + 0) s.capacity) same
    (fresh_run fits plan (capacity_at (s ∷ sealers)) (place + 0) s (own 0 s refl)
    (All-head (λ x. x.replica < plan.setting.n) s sealers below) (All-head (λ x. x.made ≡ 0) s sealers none))
fresh_runs fits plan (s ∷ sealers) place (suc at) r below none own found =
    subst (λ (k : ℕ). IsRun fits plan k (capacity_at sealers at) r) (one_on place at)
    (fresh_runs fits plan sealers (place + 1) at r (All-tail (λ x. x.replica < plan.setting.n) s sealers below) (All-tail (λ x. x.made ≡ 0) s sealers none)
    (λ k x is. own (suc k) x is ∙ sym (one_on place k)) found)
  where
    one_on : (place k : ℕ) → place + 1 + k ≡ place + suc k
    one_on place k = omega arith

from_none : (k : ℕ) → k ≡ 0 + k
from_none k = omega arith

module _ (fits : Check) (plan : Plan) (sealers : List Signer) (steps : ℕ) (made : AreMadeFor plan sealers) where
  start_good : Good fits plan (capacity_at sealers) (start_of plan sealers)
  unfolding start_of
  start_good = record {
    count = length-map sealers (fresh_replica plan) ∙ made.count;
    runs = λ at r found honest. subst (λ (k : ℕ). IsRun fits plan k (capacity_at sealers at) r) (sym (from_none at))
        (fresh_runs fits plan sealers 0 at r made.below made.fresh (λ k s is. made.own k s is ∙ from_none k) found);
    queue = All-nil (λ (x : Envelope). x.from < plan.setting.n);
  }

  pub ends_good : Good fits plan (capacity_at sealers) (run_for fits plan (start_of plan sealers) steps)
  ends_good = run_good fits plan (capacity_at sealers) (start_of plan sealers) steps start_good
