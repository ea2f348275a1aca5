-- Why a run ends before all due transactions are finalised.
use Rattle.std.specs.Prelude.{◌≡◌, ◌≤◌, ◌⊎◌, []}
use Rattle.run_record.specs.declared.record.RunRecord.{RunRecord}
use Rattle.plan_text.specs.declared.plan.Plan.{Plan}
use Rattle.replay_run.specs.World.{World}

-- The run had all turns that its plan allows; or nothing was in transit in its last world, and it had all ticks.
abbrev pub WasSpent : Plan → World → RunRecord → Type 0
WasSpent plan last run = (plan.turns ≤ run.turns) ⊎ ((last.queue ≡ []) × (plan.ticks ≤ run.ticks))
