-- The record of a run in rounds fits the form of its trace.
use Rattle.std.proofs.Common.{◌≡◌, ◌∙◌, ◌<◌, ◌≤◌, ◌^◌, ℕ, zero, suc, List, [], ◌∷◌, length, map, Bool, true, false, max, Option, Some, refl, sym, ap, subst, if◌then◌else◌, arith}
use Rattle.std.specs.Prelude.{All, slice_get}
use Rattle.std.specs.Option.{option_map_or}
use Rattle.std.proofs.lemmas.List.Elements.{All-cons, All-head, All-nil, All-tail}
use Rattle.count_set.specs.Sets.{is_among}
use Rattle.plan_text.specs.declared.plan.Plan.{Plan}
use Rattle.plan_text.specs.Rules.{KeepsRules}
use Rattle.node_core.specs.Rows.{Check}
use Rattle.node_core.specs.Reported.{Gives}
use Rattle.node_core.specs.declared.event.Event.{Event}
use Rattle.node_core.specs.declared.event.Event.TheVariants.{Arrived, Deliver, Tick}
use Rattle.node_core.specs.declared.entry.Entry.{Entry}
use Rattle.run_record.specs.declared.record.Head.{Head}
use Rattle.run_record.specs.declared.record.RunRecord.{RunRecord}
use Rattle.node_core.specs.declared.turned.Turned.{Turned}
use Rattle.replica_seat.specs.Acting.{After}
use Rattle.replica_seat.specs.Senders.{IsFrom}
use Rattle.lawful_runs.specs.Fed.{HaveArrivalLists}
use Rattle.round_rules.specs.Acts.{act, acts, after_events, opening}
use Rattle.round_rules.specs.Journals.{before_tick, events_of, ticks_in}
use Rattle.round_rules.specs.Moments.{Moment, everyone, floor_at, greatest, view_at}
use Rattle.round_rules.specs.Ran.{Ran, at_tick, journal_in}
use Rattle.trace_form.specs.declared.keys.Keys.TheVariants.{Seed}
use Rattle.trace_form.specs.Contents.{contents_of, span_of}
use Rattle.trace_form.specs.Fitting.{FitsOpening}
use Rattle.trace_laws.specs.Form.{FitsForm, FitsTurn, HasShortFloor, view_in}
use Rattle.trace_laws.proofs.Exactly.{turns_fit}
use Rattle.trace_laws.proofs.Openings.{opening_fits}
use Rattle.trace_laws.proofs.Replicas.{IsBounded, SealedTwo, bounded}
use Rattle.trace_laws.proofs.Steps.{ShortFloor}

-- ---- lists

unmapped : {X Y : Type 0} (P : Y → Type 0) (f : X → Y) (xs : List X) → All P (map f xs) → All (λ x. P (f x)) xs
unmapped P f [] all = All-nil (λ x. P (f x))
unmapped P f (x ∷ xs) all = All-cons (λ y. P (f y)) x xs (All-head P (f x) (map f xs) all) (unmapped P f xs (All-tail P (f x) (map f xs) all))

-- Each tick of a journal is the one with some number, and if each of these has a short floor, so has every entry.
abbrev HasTicks : List Entry → Type 0
HasTicks es = (k : ℕ) → k < ticks_in (events_of es)
    → (floor : ℕ) × (floor < 2 ^ 32) × (slice_get (events_of es) (length (before_tick k es)) ≡ Some (Tick floor))

entry_short : (event : Event) (turned : Turned) (es : List Entry) → HasTicks (record { event = event; turned = turned } ∷ es)
    → HasShortFloor event × HasTicks es
entry_short (Arrived list) turned es ticks = (tt, rest)
  where
    rest : HasTicks es
    rest zero less = ticks zero (omega (arith, less))
    rest (suc k) less = ticks (suc k) (omega (arith, less))
entry_short (Deliver from bytes) turned es ticks = (tt, rest)
  where
    rest : HasTicks es
    rest zero less = ticks zero (omega (arith, less))
    rest (suc k) less = ticks (suc k) (omega (arith, less))
entry_short (Tick floor) turned es ticks = (
  (let first = ticks 0 (omega arith) in
      let same : first.0 ≡ floor = cc in
      subst (λ (f : ℕ). f < 2 ^ 32) same first.1),
  λ k less. ticks (suc k) (omega (arith, less)),
)

all_short : (es : List Entry) → HasTicks es → All ShortFloor es
all_short [] ticks = All-nil ShortFloor
all_short (e ∷ es) ticks =
    let parts : HasShortFloor e.event × HasTicks es = entry_short e.event e.turned es ticks in
    All-cons ShortFloor e es parts.0 (all_short es parts.1)

module _ (fits : Check) (plan : Plan) (gives : ℕ → Gives) (capacity : ℕ) (rules : KeepsRules plan) where
  -- ---- replicas

  acts_bounded : (at : ℕ) (a : After) (events : List Event) → IsBounded plan a.replica → IsBounded plan (acts fits plan at a events).replica
  acts_bounded at a [] b = b
  acts_bounded at a (e ∷ events) b = acts_bounded at (act fits plan at a e) events (bounded fits plan at a.replica a.queue e b)

  after_bounded : (at : ℕ) (events : List Event) → IsBounded plan (after_events fits plan (gives at) capacity at events).replica
  unfolding after_events
  after_bounded at events = acts_bounded at (opening plan (gives at) capacity at) events (record {
    bounds =
        record {
          ordered = omega arith;
          proposed = omega arith;
          view = omega arith;
          asked = omega arith;
          voted = omega arith;
          wide = omega (arith, rules.few_views);
        };
    views = refl;
    few = All-nil SealedTwo;
  })

  view_low : (m : Moment) (at : ℕ) → view_at fits plan gives capacity m at ≤ plan.views
  view_low m at = let b = after_bounded at (events_of (m at)) in omega (arith, b.bounds.view, b.views)

  floor_low : (m : Moment) → floor_at fits plan gives capacity m ≤ plan.views
  floor_low m = over 0 (everyone plan) (omega arith)
    where
      more : (t : Bool) (view floor : ℕ) → view ≤ plan.views → floor ≤ plan.views → (if t then floor else max view floor) ≤ plan.views
      more true view floor high low = low
      more false view floor high low = omega (arith, high, low)

      over : (floor : ℕ) (replicas : List ℕ) → floor ≤ plan.views → greatest plan.faulty (view_at fits plan gives capacity m) floor replicas ≤ plan.views
      over floor [] low = low
      over floor (at ∷ replicas) low =
          over (if is_among plan.faulty at then floor else max (view_at fits plan gives capacity m at) floor) replicas
          (more (is_among plan.faulty at) (view_at fits plan gives capacity m at) floor (view_low m at) low)

  -- ---- the record

  module _ (run : RunRecord) (lists : HaveArrivalLists plan run) (ran : Ran fits plan gives capacity run) where
    floors : (r : ℕ) → r < plan.setting.n → All ShortFloor (journal_in run r)
    floors r below = all_short (journal_in run r) (λ k less.
        (let m : Moment = at_tick k (journal_in run) in
        let early : k < run.ticks = omega (arith, less, ran.ticks.ticks r below) in
        (floor_at fits plan gives capacity m, omega (arith, floor_low m, rules.few_views), ran.ticks.floors k r early below)))

    turns : (r : ℕ) → r < plan.setting.n → All (FitsTurn plan.setting.n) (journal_in run r)
    turns r below =
        turns_fit plan.setting.n (journal_in run r)
        (unmapped (IsFrom plan.setting.n) (λ (e : Entry). e.event) (journal_in run r) (ran.senders r below)) (floors r below)
        (subst (All SealedTwo) (sym (ran.turned r below)) (after_bounded r (events_of (journal_in run r))).few)

    view_fits : (r : ℕ) → r < plan.setting.n → view_in run r < 2 ^ 32
    view_fits r below =
        let b = after_bounded r (events_of (journal_in run r)) in
        subst (λ (o : Option Head). option_map_or (λ (h : Head). h.view) o 0 < 2 ^ 32) (sym (ran.shown.heads r below))
        (omega (arith, b.bounds.view, b.bounds.wide))

    opens : FitsOpening (contents_of run (span_of plan.views (Seed plan.seed) plan.height)).opening
    opens =
        let turns : run.turns < 2 ^ 32 = omega (arith, ran.ended.few_turns, rules.few_turns, rules.setting.replicas.few) in
        let ticks : run.ticks < 2 ^ 32 = omega (arith, ran.ended.few_ticks, rules.few_ticks) in
        rw (ran.shape.setting, ran.shape.faulty) (opening_fits plan run.turns run.ticks rules turns ticks)

    pub rounds_fit : FitsForm run (span_of plan.views (Seed plan.seed) plan.height)
    rounds_fit =
        let n : run.setting.n ≡ plan.setting.n = ap (λ s. s.n) ran.shape.setting in
        record {
          opening = opens;
          each_arrival = ran.shape.arrivals ∙ sym n;
          each_batch = ran.shape.batches ∙ sym n;
          arrivals = λ r below. lists r (omega (arith, n, below));
          turns = λ r honest. subst (λ (k : ℕ). All (FitsTurn k) (journal_in run r)) (sym n) (turns r (omega (arith, n, honest.below)));
          views = λ r honest. view_fits r (omega (arith, n, honest.below));
        }
