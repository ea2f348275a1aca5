-- The definition of the record of a run in rounds.
use Rattle.std.specs.Prelude.{◌≡◌, ◌⊎◌, ℕ, ◌+◌, ◌-◌, ◌*◌, ◌/◌, ◌<◌, ◌≤◌, List, [], ◌∷◌, ◌++◌, Some, true, false, All, length, slice_get, get_or}
use Rattle.std.specs.Option.{option_map_or}
use mathlib.Core.List.{IsPrefix}
use Rattle.client_logs.specs.Merges.{IsMerge}
use Rattle.count_set.specs.Sets.{is_among}
use Rattle.plan_text.specs.declared.plan.Plan.{Plan}
use Rattle.run_record.specs.Done.{due_of, hold_all}
use Rattle.node_core.specs.Rows.{Check}
use Rattle.node_core.specs.Reported.{Gives}
use Rattle.node_core.specs.declared.event.Event.TheVariants.{Tick}
use Rattle.node_core.specs.declared.entry.Entry.{Entry}
use Rattle.run_record.specs.declared.record.Journal.{Journal}
use Rattle.run_record.specs.declared.record.RunRecord.{RunRecord}
use Rattle.replica_seat.specs.Senders.{IsFrom}
use Rattle.replica_seat.specs.Showing.{batches_of, head_of}
use Rattle.round_rules.specs.Acts.{after_events}
use Rattle.round_rules.specs.Journals.{before_tick, cut, deliveries, delivered_from, events_of, is_delivery, known_in, ticks_in}
use Rattle.round_rules.specs.Moments.{IsWhole, Knows, LacksOne, Moment, floor_at, given_at, turns_at, KnowsNoneEarly}
use Rattle.round_rules.specs.Submissions.{submitted_to}

abbrev pub journal_in : RunRecord → ℕ → List Entry
journal_in run at = option_map_or (λ (j : Journal). j.entries) (slice_get run.journals at) []

-- the moment before tick k, counted from 0, and the moment one tick earlier: nothing is before the first
abbrev pub at_tick : ℕ → Moment → Moment
at_tick k m at = before_tick k (m at)

abbrev pub at_cut : ℕ → Moment → Moment
at_cut k m at = cut k (m at)

-- 1: the plan's setting and faulty replicas, and one list of each kind for each replica
pub record IsShaped (plan : Plan) (run : RunRecord) : Type 0 where
  pub setting : run.setting ≡ plan.setting
  pub faulty : run.faulty ≡ plan.faulty
  pub arrivals : length run.arrivals ≡ plan.setting.n
  pub journals : length run.journals ≡ plan.setting.n
  pub heads : length run.heads ≡ plan.setting.n
  pub batches : length run.batches ≡ plan.setting.n

-- 3: each arrival list is a merge of the replica's arrivals and the clients' lists
abbrev pub AreMerges : Plan → RunRecord → Type 0
AreMerges plan run = (at : ℕ) → at < plan.setting.n → IsMerge (submitted_to plan at) (get_or run.arrivals at [])

-- 4: what was delivered from a replica is a prefix of what its link gives for what it sent
abbrev pub AreLinked : Plan → Moment → Type 0
AreLinked plan m = (from to : ℕ) → from < plan.setting.n → to < plan.setting.n → IsPrefix (delivered_from from (events_of (m to))) (given_at plan m from to)

-- 6: The arrivals in a node's events are a prefix of its replica's arrival list. At each cut the node knows what had to
-- be in its log at the cut before, and before each delivery what had to be there when the round began. Before each
-- tick, and at the end, it knows no arrival whose turn is later than the turns of all replicas so far.
pub record AreFed (plan : Plan) (run : RunRecord) (m : Moment) : Type 0 where
  pub reported : (at : ℕ) → at < plan.setting.n → IsPrefix (known_in (events_of (m at))) (get_or run.arrivals at [])
  pub at_cuts : (k at : ℕ) → k ≤ run.ticks → at < plan.setting.n → Knows plan at (turns_at plan (at_cut k m)) (64 * k) (before_tick k (m at))
  pub before_each : (at : ℕ) (prefix : List Entry) (e : Entry) (back : List Entry) → at < plan.setting.n → m at ≡ prefix ++ e ∷ back
      → is_delivery e.event ≡ true
      → Knows plan at (deliveries (events_of prefix) - 31) (64 * (deliveries (events_of prefix) / 32)) prefix
  pub none_early : (k at : ℕ) → k ≤ run.ticks → at < plan.setting.n → KnowsNoneEarly plan at (turns_at plan (at_tick k m)) (before_tick k (m at))

-- every honest list holds every due transaction
abbrev pub IsDone : Plan → RunRecord → Type 0
IsDone plan run = (at : ℕ) → at < plan.setting.n → is_among plan.faulty at ≡ false
    → hold_all (get_or run.batches at []) (due_of plan.setting.n plan.faulty run.arrivals) ≡ true

-- 7: the run ended because all was done, or it used all turns, or all ticks with every link's output delivered
pub record HasEnded (plan : Plan) (run : RunRecord) (m : Moment) : Type 0 where
  pub cause : IsDone plan run ⊎ ((plan.turns ≤ run.turns) ⊎ ((run.ticks ≡ plan.ticks) × IsWhole plan m))
  pub few_ticks : run.ticks ≤ plan.ticks
  pub few_turns : run.turns < plan.turns + 32 * plan.setting.n

-- 9: each envelope delivered to a replica came from a replica of the plan
abbrev pub HasKnownSenders : Plan → Moment → Type 0
HasKnownSenders plan m = (at : ℕ) → at < plan.setting.n → All (IsFrom plan.setting.n) (events_of (m at))

module _ (fits : Check) (plan : Plan) (gives : ℕ → Gives) (capacity : ℕ) where
  -- 2: each journal is a run of the replica's turns on its events, with its deeds if it is faulty
  abbrev pub AreTurned : Moment → Type 0
  AreTurned m = (at : ℕ) → at < plan.setting.n → m at ≡ (after_events fits plan (gives at) capacity at (events_of (m at))).replica.journal

  -- 5: The count of turns is that of deliveries, and every journal has all ticks. Before each tick all that the links
  -- give was delivered, and the floor of the tick is the greatest view of the honest replicas.
  pub record AreTicked (run : RunRecord) (m : Moment) : Type 0 where
    pub turns : run.turns ≡ turns_at plan m
    pub ticks : (at : ℕ) → at < plan.setting.n → ticks_in (events_of (m at)) ≡ run.ticks
    pub whole : (k : ℕ) → k < run.ticks → IsWhole plan (at_tick k m)
    pub floors : (k at : ℕ) → k < run.ticks → at < plan.setting.n
        → slice_get (events_of (m at)) (length (before_tick k (m at))) ≡ Some (Tick (floor_at fits plan gives capacity (at_tick k m)))

  -- 8: each head and each list of batches is that of the node after its journal
  pub record AreShown (run : RunRecord) (m : Moment) : Type 0 where
    pub heads : (at : ℕ) → at < plan.setting.n
        → slice_get run.heads at ≡ Some (head_of (after_events fits plan (gives at) capacity at (events_of (m at))).replica)
    pub batches : (at : ℕ) → at < plan.setting.n
        → slice_get run.batches at ≡ Some (batches_of (after_events fits plan (gives at) capacity at (events_of (m at))).replica)

  -- 10: The run continued for a cause: before each tick its turns were not used up, and the batches of an honest
  -- replica lacked a due transaction.
  pub record HadCauses (run : RunRecord) (m : Moment) : Type 0 where
    pub turns_left : (k : ℕ) → k < run.ticks → turns_at plan (at_tick k m) < plan.turns
    pub lacking : (k : ℕ) → k < run.ticks → LacksOne fits plan gives capacity (due_of plan.setting.n plan.faulty run.arrivals) (at_tick k m)

  -- The record is that of a run of the plan in rounds.
  pub record Ran (run : RunRecord) : Type 0 where
    pub shape : IsShaped plan run
    pub turned : AreTurned (journal_in run)
    pub arrivals : AreMerges plan run
    pub links : AreLinked plan (journal_in run)
    pub ticks : AreTicked run (journal_in run)
    pub fed : AreFed plan run (journal_in run)
    pub ended : HasEnded plan run (journal_in run)
    pub shown : AreShown run (journal_in run)
    pub senders : HasKnownSenders plan (journal_in run)
    pub causes : HadCauses run (journal_in run)
