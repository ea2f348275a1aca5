-- Why a run ends.
use Rattle.std.specs.Prelude.{◌≡◌, ◌≤◌, ◌<◌, ◌+◌, ◌-◌, ◌⊎◌, ℕ, List, [], true, false}
use Rattle.fault_script.specs.Sealing.{Signer}
use Rattle.node_core.specs.Rows.{Check}
use Rattle.plan_text.specs.declared.plan.Plan.{Plan}
use Rattle.replay_run.specs.World.{World}
use Rattle.replay_run.specs.Step.{Stepped, has_all_due}
use Rattle.replay_run.specs.Play.{run_for, start_of, steps_of}

-- the run had all turns that it may have, or nothing is in transit and it had all ticks
abbrev pub IsSpent : Plan → World → Type 0
IsSpent plan w = (plan.turns ≤ w.turns) ⊎ ((w.queue ≡ []) × (plan.ticks ≤ w.ticks))

-- the batches of every honest replica hold every due transaction, or the run may not continue
abbrev pub IsOver : Plan → World → Type 0
IsOver plan w = (has_all_due plan w ≡ true) ⊎ IsSpent plan w

-- the world in which the run of a plan ends
abbrev pub last_of : Check → Plan → List Signer → World
last_of fits plan sealers = run_for fits plan (start_of plan sealers) (steps_of plan)

-- how many turns and ticks are left
abbrev pub left : Plan → World → ℕ
left plan w = (plan.turns - w.turns) + (plan.ticks - w.ticks)

-- A step never decreases the count of turns. A step that ends the run adds no turn. A step after which the run
-- continues leaves fewer turns and ticks.
pub record GetsOn (plan : Plan) (w : World) (s : Stepped) : Type 0 where
  pub reached : w.turns ≤ s.world.turns
  pub last : s.goes_on ≡ false → s.world.turns ≡ w.turns
  pub fewer : s.goes_on ≡ true → left plan s.world < left plan w
