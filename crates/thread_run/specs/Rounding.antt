-- Round after round, until the replicas stop.
use Rattle.std.specs.Prelude.{◌≡◌, ℕ, ◌+◌, Option, None}
use Rattle.plan_text.specs.declared.plan.Plan.{Plan}
use Rattle.node_core.specs.Rows.{Check}
use Rattle.node_core.specs.Reported.{Gives}
use Rattle.replica_seat.specs.Seats.{Meaning}
use Rattle.round_rules.specs.Rounds.{MayTick, ticks_of}
use Rattle.thread_run.specs.declared.runs.Next.{Next}
use Rattle.thread_run.specs.declared.runs.Next.TheVariants.{Ends, Goes}
use Rattle.thread_run.specs.declared.runs.Run.{Run}
use Rattle.thread_run.specs.Going.{IsGoing}
use Rattle.thread_run.specs.Standing.{journals_at}
use Rattle.thread_run.specs.Steps.{IsOver}

module _ {S : Type 0} (fits : Check) (plan : Plan) (m : Meaning S) where
  -- a run that continues with a round, which has a tick or none
  pub record MayGo (gives : ℕ → Gives) (capacity : ℕ) (tick : Option ℕ) (run : Run S) : Type 0 where
    pub rounds : ℕ
    pub ticks : ℕ
    pub going : IsGoing fits plan m gives capacity rounds ticks run
    pub may : MayTick fits plan gives capacity (journals_at run.workers.items) tick
    pub first : rounds ≡ 0 → tick ≡ None
    pub counted : run.ticks ≡ ticks + ticks_of tick

  -- a run before its first round
  abbrev pub Begins : (ℕ → Gives) → ℕ → Run S → Type 0
  Begins gives capacity first = IsGoing fits plan m gives capacity 0 0 first × (first.ticks ≡ 0)

  -- the state of a run that started in this way
  abbrev pub Follows : Run S → Next → Run S → Type 0
  Follows first Ends run = (gives : ℕ → Gives) (capacity : ℕ) → Begins gives capacity first → IsOver fits plan m gives capacity run
  Follows first (Goes tick) run = (gives : ℕ → Gives) (capacity : ℕ) → Begins gives capacity first → MayGo gives capacity tick run
