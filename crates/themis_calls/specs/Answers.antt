-- What each command answers.
use Rattle.std.specs.Prelude.{◌≡◌, ◌⊎◌, ℕ, List, Option, IfSome}
use Rattle.run_record.specs.declared.record.RunRecord.{RunRecord}
use Rattle.themis_calls.specs.declared.command.Command.{Command}
use Rattle.themis_calls.specs.declared.command.Command.TheVariants.{Order, Line, Replay, Run, Trace, Audit, Make}
use Rattle.themis_calls.specs.declared.ordering.Form.{Form}
use Rattle.themis_calls.specs.declared.ordering.Form.TheVariants.{Batches, Lines}
use Rattle.themis_calls.specs.declared.outcome.Status.{Status}
use Rattle.themis_calls.specs.declared.outcome.Status.TheVariants.{NoMemory}
use Rattle.themis_calls.specs.declared.reported.RunForm.TheVariants.{Report, Record}
use Rattle.themis_calls.specs.Audited.{AuditsTrace}
use Rattle.themis_calls.specs.Made.{AnswersMade}
use Rattle.themis_calls.specs.Ordered.{AnswersInput, IsDue}
use Rattle.themis_calls.specs.Played.{PlaysPlan}
use Rattle.themis_calls.specs.Replayed.{Seals, ByTurns, InRounds}

-- The answer to an order text, by whether the counts of faults of the source and the sink rose.
pub record OrdersText (form : Form) (SourceRose SinkRose : Type 0) (bytes : List ℕ) (old new : Option (List ℕ)) (status : Status) : Type 0 where
  -- which text is written in the given form, or which fault is returned
  pub answers : AnswersInput form bytes old new status
  -- if no count rises, exactly that, unless memory runs out
  pub due : (SourceRose → ⊥) → (SinkRose → ⊥) → (status ≡ NoMemory) ⊎ IsDue bytes status

-- The answer of a command. Its parameters are: the bytes that the source had left, if it reports them; whether the
-- counts of faults of the source and the sink rose; the run that is given; and the sink before and after.
abbrev pub AnswersOf : Command → Seals → Type 0 → Type 0 → Option (List ℕ) → Option RunRecord → Option (List ℕ) → Option (List ℕ) → Status → Type 0
AnswersOf Order seals SourceRose SinkRose left given old new status = IfSome left (λ bytes. OrdersText Batches SourceRose SinkRose bytes old new status)
AnswersOf Line seals SourceRose SinkRose left given old new status = IfSome left (λ bytes. OrdersText Lines SourceRose SinkRose bytes old new status)
AnswersOf Replay seals SourceRose SinkRose left given old new status =
    IfSome left (λ bytes. PlaysPlan (ByTurns Report) seals SourceRose SinkRose bytes given old new status)
AnswersOf Run seals SourceRose SinkRose left given old new status =
    IfSome left (λ bytes. PlaysPlan InRounds seals SourceRose SinkRose bytes given old new status)
AnswersOf Trace seals SourceRose SinkRose left given old new status =
    IfSome left (λ bytes. PlaysPlan (ByTurns Record) seals SourceRose SinkRose bytes given old new status)
AnswersOf Audit seals SourceRose SinkRose left given old new status = IfSome left (λ bytes. AuditsTrace seals SourceRose SinkRose bytes given old new status)
AnswersOf (Make seed count) seals SourceRose SinkRose left given old new status = AnswersMade seed count old new status
