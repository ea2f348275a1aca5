-- The claims of the laws on progress.
use Rattle.std.specs.Prelude.{ℕ}
use Rattle.node_core.specs.Rows.{Check}
use Rattle.node_core.specs.Reported.{Gives}
use Rattle.run_record.specs.declared.record.RunRecord.{RunRecord}
use Rattle.plan_text.specs.declared.plan.Plan.{Plan}
use Rattle.headline_laws.specs.Premises.{IsSound}
use Rattle.lawful_runs.specs.Lawful.{IsReadableRun}
use Rattle.run_verdict.specs.Shown.{IsCollided}
use Rattle.progress_laws.specs.Clean.{HasProgressed, IsCleanPlan, SealsFit, run_with}
use Rattle.progress_laws.specs.Plain.{HoldBoth}

-- If the plan is clean and the seals that its sealers give fit, its run has progressed, unless two blocks in it have
-- the same digest.
abbrev pub ProgressesIfClean : Check → (ℕ → Gives) → Plan → Type 0
ProgressesIfClean fits gives plan =
    SealsFit fits plan.setting.n gives → IsCleanPlan plan → (¬ IsCollided (run_with fits gives plan)) → HasProgressed fits (run_with fits gives plan)

-- If what was delivered can be written, and no two blocks have the same digest, the run is sound, and its honest lists
-- hold both transactions.
abbrev pub HoldsBothInOrder : Check → RunRecord → Type 0
HoldsBothInOrder fits run = IsReadableRun run → (¬ IsCollided run) → IsSound fits run × HoldBoth run
