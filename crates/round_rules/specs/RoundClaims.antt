-- The claims of the laws on rounds.
use Rattle.std.specs.Prelude.{◌≡◌, ℕ, ◌+◌, ◌*◌, ◌<◌, ◌≤◌, List, Option}
use Rattle.seq_base.specs.declared.tx.Tx.{Tx}
use Rattle.plan_text.specs.declared.plan.Plan.{Plan}
use Rattle.node_core.specs.Rows.{Check}
use Rattle.node_core.specs.Reported.{Gives}
use Rattle.run_record.specs.declared.record.RunRecord.{RunRecord}
use Rattle.round_rules.specs.Journals.{before_tick}
use Rattle.round_rules.specs.Moments.{Holds, Knows, Moment, turns_at}
use Rattle.round_rules.specs.Ran.{AreTicked, at_cut}
use Rattle.round_rules.specs.Rounds.{HasGone, IsRound, MayTick, ticks_of}

-- what each replica's log held when a round began
abbrev pub Logs : Type 0
Logs = ℕ → List Tx

-- each log holds its replica's arrivals up to a count of turns, and the first `count` transactions of each client
abbrev pub LogsHold : Plan → ℕ → ℕ → Logs → Type 0
LogsHold plan turns count logs = (at : ℕ) → at < plan.setting.n → Holds plan at turns count (logs at)

-- before each of the first `ticks` ticks, and now, each node knows what had to be in its log at the cut before
abbrev pub KnowAtCuts : Plan → ℕ → Moment → Type 0
KnowAtCuts plan ticks m = (k at : ℕ) → k ≤ ticks → at < plan.setting.n → Knows plan at (turns_at plan (at_cut k m)) (64 * k) (before_tick k (m at))

module _ (fits : Check) (plan : Plan) (gives : ℕ → Gives) (capacity : ℕ) where
  -- one more round preserves what held, if the logs hold what has to be known and a tick comes only where it may
  abbrev pub RoundGoesOn : Moment → Moment → Option ℕ → Type 0
  RoundGoesOn old new tick = (logs : Logs) (rounds ticks base : ℕ)
      → HasGone fits plan gives capacity rounds ticks base old → IsRound plan tick logs old new → MayTick fits plan gives capacity old tick
      → LogsHold plan (turns_at plan old) (64 * rounds) logs
      → HasGone fits plan gives capacity (rounds + 1) (ticks + ticks_of tick) (turns_at plan old) new

  -- the clause of `Ran` on ticks, for a record that counts the ticks and turns of the rounds so far
  abbrev pub ShowsTicks : RunRecord → ℕ → ℕ → Moment → Type 0
  ShowsTicks run rounds base m = HasGone fits plan gives capacity rounds run.ticks base m → run.turns ≡ turns_at plan m
      → AreTicked fits plan gives capacity run m
