-- How a run ends if its plan is clean, or if nothing arrives.
use Rattle.std.specs.Prelude.{◌≡◌, ◌⊎◌, ◌≤◌, ℕ, List, length, Ok}
use Rattle.plan_text.specs.declared.plan.Plan.{Plan}
use Rattle.plan_text.specs.Plans.{plan_of}
use Rattle.progress_laws.specs.Clean.{BringsNothing, IsCleanPlan}
use Rattle.run_verdict.specs.Shown.{IsCollided}
use Rattle.themis_calls.specs.Limits.{most_input}
use Rattle.themis_calls.specs.declared.outcome.Status.{Status}
use Rattle.themis_calls.specs.declared.outcome.Status.TheVariants.{Done, WriteFault, NoMemory}
use Rattle.themis_calls.specs.Replayed.{Seals, run_of}

-- The bytes read as a plan that is clean and whose run has no two blocks with the same digest, or in which nothing
-- arrives.
pub record ReadsAsClean (seals : Seals) (bytes : List ℕ) : Type 0 where
  pub within : length bytes ≤ most_input
  pub plan : Plan
  pub read : plan_of bytes ≡ Ok plan
  pub clean : (IsCleanPlan plan × (¬ IsCollided (run_of seals plan))) ⊎ BringsNothing plan

-- done, unless the sink fails or memory runs out
abbrev pub IsDoneUnlessFailed : Status → Type 0
IsDoneUnlessFailed status = (status ≡ Done) ⊎ ((status ≡ WriteFault) ⊎ (status ≡ NoMemory))
