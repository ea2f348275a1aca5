-- Which arrivals the driver gave a log by which turn. None of them stands early in what a node knows.
use Rattle.std.specs.Prelude.{◌≡◌, ◌⊎◌, ℕ, ◌<◌, ◌≤◌, List, ◌++◌, Some, length, slice_get}
use Rattle.std.specs.List.{AllByRecursion}
use mathlib.Core.List.{IsPrefix}
use Rattle.seq_base.specs.declared.tx.Tx.{Tx}
use Rattle.locked_log.specs.History.{Known, times}
use Rattle.plan_text.specs.declared.plan.Plan.{Plan}
use Rattle.replica_seat.specs.Feed.{arrivals_for}
use Rattle.replica_seat.specs.declared.arrivals.TimedTx.{TimedTx}
use Rattle.round_rules.specs.Journals.{before_tick, events_of, known_in, ticks_in}
use Rattle.round_rules.specs.Moments.{Moment, turns_at}
use Rattle.round_rules.specs.Ran.{at_tick}
use Rattle.thread_run.specs.declared.driver.Driver.{Driver}

-- ---- places of a log

-- the own places that a pass gained are at or after a place
abbrev pub GainsFrom : ℕ → Known Tx → Known Tx → Type 0
GainsFrom low old new = (p : ℕ) → 1 ≤ times p new.own → (1 ≤ times p old.own) ⊎ (low ≤ p)

-- a pass has seen at least as much, and the own places that it gained are at or after a place
pub record GoesFrom (low : ℕ) (old new : Known Tx) : Type 0 where
  pub seen : IsPrefix old.seen new.seen
  pub gains : GainsFrom low old new

-- at a place of what was seen stands one of these arrivals, which comes by a count of turns
pub record StandsBy (all : List TimedTx) (turns p : ℕ) (seen : List Tx) : Type 0 where
  pub number : ℕ
  pub arrival : TimedTx
  pub is : slice_get all number ≡ Some arrival
  pub there : slice_get seen p ≡ Some arrival.tx
  pub by : arrival.turn ≤ turns

-- At each own place of a pass below a bound stands an arrival that comes by a count of turns.
abbrev pub NoneEarly : List TimedTx → ℕ → ℕ → Known Tx → Type 0
NoneEarly all turns bound pass = (p : ℕ) → p < bound → 1 ≤ times p pass.own → StandsBy all turns p pass.seen

-- ---- all logs

-- what the driver took of these arrivals comes by a count of turns
pub record GivenBy (turns : ℕ) (all : List TimedTx) (d : Driver) : Type 0 where
  pub given : List TimedTx
  pub all_is : all ≡ given ++ d.feed.left
  pub by : AllByRecursion (λ t. t.turn ≤ turns) given

-- how many transactions a replica's node knew before the tick with a number
abbrev pub known_before : ℕ → Moment → ℕ → ℕ
known_before k m at = length (known_in (events_of (before_tick k (m at))))

-- Each journal has the ticks so far. Before each of them, and now, the driver's arrivals that a node knew had come by
-- the turns at that time. All that the driver gave has come by the turns so far.
pub record IsTimely (plan : Plan) (ticks turns : ℕ) (m : Moment) (drivers : List Driver) : Type 0 where
  pub ticked : (at : ℕ) → at < plan.setting.n → ticks_in (events_of (m at)) ≡ ticks
  pub early : (k at : ℕ) (d : Driver) → k ≤ ticks → at < plan.setting.n → slice_get drivers at ≡ Some d
      → NoneEarly (arrivals_for plan.arrivals at) (turns_at plan (at_tick k m)) (known_before k m at) d.pass
  pub given : (at : ℕ) (d : Driver) → at < plan.setting.n → slice_get drivers at ≡ Some d → GivenBy turns (arrivals_for plan.arrivals at) d
