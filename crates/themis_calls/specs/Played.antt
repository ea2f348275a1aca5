-- What the commands that run a plan answer to an input.
use Rattle.std.specs.Prelude.{◌≡◌, ◌⊎◌, ℕ, List, Option}
use Rattle.run_record.specs.declared.record.RunRecord.{RunRecord}
use Rattle.themis_calls.specs.declared.outcome.Status.{Status}
use Rattle.themis_calls.specs.declared.outcome.Status.TheVariants.{NoMemory}
use Rattle.themis_calls.specs.Planned.{AnswersPlanInput}
use Rattle.themis_calls.specs.Progress.{IsDoneUnlessFailed, ReadsAsClean}
use Rattle.themis_calls.specs.Replayed.{AnswersRun, IsRunDue, Seals, Way, ByTurns, InRounds}

-- A call that plays a clean plan turn by turn makes progress. No progress of rounds is claimed.
abbrev pub GetsOn : Way → Seals → List ℕ → Status → Type 0
GetsOn (ByTurns form) seals bytes status = ReadsAsClean seals bytes → IsDoneUnlessFailed status
GetsOn InRounds seals bytes status = Unit {0}

-- The answer to these bytes, by whether the counts of faults of the source and the sink rose.
pub record PlaysPlan (way : Way) (seals : Seals) (SourceRose SinkRose : Type 0) (bytes : List ℕ) (given : Option RunRecord)
    (old new : Option (List ℕ)) (status : Status) : Type 0 where
  -- which plan is run, or which fault is returned
  pub plan : AnswersPlanInput bytes status
  -- which run is given, and which text is written of it
  pub run : AnswersRun way seals bytes given old new status
  -- if no count rises, exactly that, unless memory runs out
  pub due : (SourceRose → ⊥) → (SinkRose → ⊥) → (status ≡ NoMemory) ⊎ IsRunDue way seals bytes status
  -- a clean plan makes progress
  pub clean : (SourceRose → ⊥) → GetsOn way seals bytes status
