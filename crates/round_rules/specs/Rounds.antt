-- One round, and what holds of the journals between two rounds.
use Rattle.std.specs.Prelude.{◌≡◌, ℕ, ◌+◌, ◌-◌, ◌*◌, ◌/◌, ◌<◌, ◌≤◌, List, [], ◌∷◌, ◌++◌, Option, Some, None, true, ⊤, length, slice_get}
use mathlib.Core.List.{IsPrefix}
use Rattle.seq_base.specs.declared.tx.Tx.{Tx}
use Rattle.plan_text.specs.declared.plan.Plan.{Plan}
use Rattle.node_core.specs.Rows.{Check}
use Rattle.node_core.specs.Reported.{Gives}
use Rattle.node_core.specs.declared.event.Event.{Event}
use Rattle.node_core.specs.declared.event.Event.TheVariants.{Tick}
use Rattle.node_core.specs.declared.entry.Entry.{Entry}
use Rattle.round_rules.specs.Journals.{before_tick, carried_by, deliveries, events_of, is_delivery, known_in, ticks_in}
use Rattle.round_rules.specs.Moments.{IsWhole, Knows, LacksOne, Moment, due_in, floor_at, turns_at}
use Rattle.round_rules.specs.Ran.{at_cut, at_tick}

-- ---- a round

-- Before each delivery the node knows the whole of a list.
abbrev pub FedEach : List Tx → List Tx → List Event → Type 0
FedEach base known [] = ⊤
FedEach base known (e ∷ es) = (is_delivery e ≡ true → IsPrefix base known) × FedEach base (known ++ carried_by e) es

-- Events without a tick and with at most `most` deliveries. Before each delivery the node knows the whole of a list.
pub record IsFed (base known : List Tx) (most : ℕ) (events : List Event) : Type 0 where
  pub quiet : ticks_in events ≡ 0
  pub few : deliveries events ≤ most
  pub fed : FedEach base known events

-- the tick of a round that has one
abbrev pub tick_of : Option ℕ → List Event
tick_of None = []
tick_of (Some floor) = Tick floor ∷ []

-- What a journal gains in a round: the tick, if the round has one, and then at most 32 deliveries. Before each of them
-- and at the end the node knows all that its log held when the round began.
pub record Gains (tick : Option ℕ) (log : List Tx) (old new : List Entry) : Type 0 where
  pub more : List Entry
  pub events : List Event
  pub grown : new ≡ old ++ more
  pub reported : events_of more ≡ tick_of tick ++ events
  pub fed : IsFed log (known_in (events_of old)) 32 events
  pub knows : IsPrefix log (known_in (events_of new))

-- A round: what each journal gains, given what each log held when the round began.
abbrev pub IsRound : Plan → Option ℕ → (ℕ → List Tx) → Moment → Moment → Type 0
IsRound plan tick logs old new = (at : ℕ) → at < plan.setting.n → Gains tick (logs at) (old at) (new at)

-- the count of ticks of a round
abbrev pub ticks_of : Option ℕ → ℕ
ticks_of None = 0
ticks_of (Some floor) = 1

-- ---- between rounds

-- no events before the first round
abbrev pub nothing : Moment
nothing at = []

module _ (fits : Check) (plan : Plan) (gives : ℕ → Gives) (capacity : ℕ) where
  -- What held at each tick and before each delivery of the rounds so far. It continues to hold, since journals only
  -- grow.
  pub record HasKept (rounds ticks : ℕ) (m : Moment) : Type 0 where
    pub ticks_are : (at : ℕ) → at < plan.setting.n → ticks_in (events_of (m at)) ≡ ticks
    pub whole : (k : ℕ) → k < ticks → IsWhole plan (at_tick k m)
    pub floors : (k at : ℕ) → k < ticks → at < plan.setting.n
        → slice_get (events_of (m at)) (length (before_tick k (m at))) ≡ Some (Tick (floor_at fits plan gives capacity (at_tick k m)))
    pub turns_left : (k : ℕ) → k < ticks → turns_at plan (at_tick k m) < plan.turns
    pub lacking : (k : ℕ) → k < ticks → LacksOne fits plan gives capacity (due_in plan) (at_tick k m)
    pub fed : (k at : ℕ) → k < ticks → at < plan.setting.n → Knows plan at (turns_at plan (at_cut k m)) (64 * k) (before_tick k (m at))
    pub few_each : (at : ℕ) → at < plan.setting.n → deliveries (events_of (m at)) ≤ 32 * rounds
    pub before_each : (at : ℕ) (prefix : List Entry) (e : Entry) (back : List Entry) → at < plan.setting.n → m at ≡ prefix ++ e ∷ back
        → is_delivery e.event ≡ true
        → Knows plan at (deliveries (events_of prefix) - 31) (64 * (deliveries (events_of prefix) / 32)) prefix

  -- The same, and what the nodes know now: what had to be in the logs when the last round began.
  pub record HasGone (rounds ticks base : ℕ) (m : Moment) : Type 0 where
    pub kept : HasKept rounds ticks m
    pub few : ticks + 1 ≤ rounds
    pub fed_now : (at : ℕ) → at < plan.setting.n → Knows plan at base (64 * (rounds - 1)) (m at)
    pub later : turns_at plan (at_cut ticks m) ≤ base

  -- A tick may come: all that the links give was delivered, the turns are not used up, and the batches of an honest
  -- replica lack a due transaction. The floor of the tick is the greatest honest view.
  pub record TickMayCome (m : Moment) (floor : ℕ) : Type 0 where
    pub whole : IsWhole plan m
    pub greatest : floor ≡ floor_at fits plan gives capacity m
    pub turns_left : turns_at plan m < plan.turns
    pub lacking : LacksOne fits plan gives capacity (due_in plan) m

  -- a round may have a tick only where one may come
  abbrev pub MayTick : Moment → Option ℕ → Type 0
  MayTick m None = ⊤
  MayTick m (Some floor) = TickMayCome m floor
