-- Which run the commands `replay`, `trace` and `run` give, and what they write of it.
use Rattle.std.specs.Prelude.{◌≡◌, ◌⊎◌, ◌<◌, ◌≤◌, ℕ, List, length, Option, Some, Ok, Err}
use Rattle.fault_script.specs.Sealing.{Signer}
use Rattle.node_core.specs.Rows.{Check}
use Rattle.node_core.specs.Reported.{Gives}
use Rattle.run_record.specs.declared.record.RunRecord.{RunRecord}
use Rattle.run_record.specs.declared.verdict.Verdict.{Verdict}
use Rattle.run_record.specs.declared.verdict.Verdict.TheVariants.{Done as IsDone, Stalled as IsStalled, Forged as IsForged, Collided as IsCollided}
use Rattle.plan_text.specs.declared.plan.Plan.{Plan}
use Rattle.plan_text.specs.Plans.{plan_of}
use Rattle.replica_seat.specs.Kits.{kit_of}
use Rattle.replay_run.specs.Over.{last_of}
use Rattle.replay_run.specs.Play.{play_of}
use Rattle.replay_run.specs.World.{World}
use Rattle.round_rules.specs.Ran.{Ran}
use Rattle.report_text.specs.RecordPrint.{record_text_of}
use Rattle.run_verdict.specs.Verdicts.{verdict_of}
use Rattle.seal_kit.specs.Seals.{capacity_of}
use Rattle.seal_kit.specs.declared.height.Height.{Height}
use Rattle.seal_kit.specs.declared.traits.SealMaker.{Ghosts}
use Rattle.trace_form.specs.Contents.{bared, contents_of, span_of}
use Rattle.trace_form.specs.Spelling.{contents_spelling}
use Rattle.trace_form.specs.declared.keys.Keys.TheVariants.{Seed}
use Rattle.trace_form.specs.declared.trace.Trace.{Trace}
use Rattle.themis_calls.specs.Limits.{most_input}
use Rattle.themis_calls.specs.declared.reported.RunForm.{RunForm}
use Rattle.themis_calls.specs.declared.reported.RunForm.TheVariants.{Report, Record}
use Rattle.themis_calls.specs.declared.outcome.Status.{Status}
use Rattle.themis_calls.specs.declared.outcome.Status.TheVariants.{Done, ReadFault, WriteFault, BadWords, BadPlan, TooLong, Open, Stalled, Forged, Collided, NoMemory, BadTrace, Unlawful}
use Rattle.themis_calls.specs.Moved.{Took, TookSome}

-- What a maker states about the seals of a run, by seed, height and n: which seals fit, and which seals a replica's
-- sealer gives. By height and public keys: which seals fit.
pub record Seals : Type 0 where
  pub fits : ℕ → Height → ℕ → Check
  pub gives : ℕ → Height → ℕ → ℕ → Gives
  pub keys_fit : Height → List (List ℕ) → Check

abbrev pub seals_of : {M S C : Type 0} → Ghosts M S C → (M → Height → List (List ℕ) → Check) → M → Seals
seals_of m keys_fit maker = record { fits = m.fits maker; gives = m.gives maker; keys_fit = keys_fit maker }

-- the seals that fit in the run of a plan
abbrev pub fits_for : Seals → Plan → Check
fits_for seals plan = seals.fits plan.seed plan.height plan.setting.n

-- what each replica's sealer gives in the run of a plan
abbrev pub gives_for : Seals → Plan → ℕ → Gives
gives_for seals plan = seals.gives plan.seed plan.height plan.setting.n

-- one new sealer for each replica of a plan
abbrev pub kit_for : Seals → Plan → List Signer
kit_for seals plan = kit_of (gives_for seals plan) (capacity_of plan.height) plan.setting.n

-- the run of a plan, with these sealers
unfoldable pub run_of : Seals → Plan → RunRecord
run_of seals plan = play_of (fits_for seals plan) plan (kit_for seals plan)

-- the world in which it ends
unfoldable pub last_world : Seals → Plan → World
last_world seals plan = last_of (fits_for seals plan) plan (kit_for seals plan)

-- How a plan is run: turn by turn, with the form in which it is written; or in rounds of threads, with its report.
pub data Way : Type 0 where
  ByTurns : RunForm → Way
  InRounds : Way

-- Which runs are runs of a plan: turn by turn there is exactly one; in rounds each whose record is one of rounds.
abbrev pub IsRunOf : Way → Seals → Plan → RunRecord → Type 0
IsRunOf (ByTurns form) seals plan run = run ≡ run_of seals plan
IsRunOf InRounds seals plan run = Ran (fits_for seals plan) plan (gives_for seals plan) (capacity_of plan.height) run

-- how a run with this verdict ends, once its text is written
abbrev pub status_of : RunRecord → Verdict → Status
status_of run IsDone = Done
status_of run IsStalled = Stalled run.turns run.ticks
status_of run (IsForged at) = Forged at
status_of run (IsCollided at) = Collided at

-- What is written of a run in a form: its report, with the batches, or without them if the plan asks for a summary; or
-- its record as a trace, with what the plan states about seals.
unfoldable pub text_of_run : RunForm → Plan → RunRecord → Verdict → List ℕ
text_of_run Report plan run verdict = record_text_of run verdict plan.summary
text_of_run Record plan run verdict = contents_spelling (contents_of run (span_of plan.views (Seed plan.seed) plan.height))

-- the trace of a run of a plan
abbrev pub trace_of_run : Plan → RunRecord → Trace
trace_of_run plan run = bared run (span_of plan.views (Seed plan.seed) plan.height)

-- the form in which it is written
abbrev pub form_of : Way → RunForm
form_of (ByTurns form) = form
form_of InRounds = Report

-- The bytes read as a plan with no fault, the given run is one of it, this is its verdict, and this is its text.
pub record IsPlayed (way : Way) (seals : Seals) (bytes : List ℕ) (given : Option RunRecord) (verdict : Verdict) (text : List ℕ) : Type 0 where
  pub plan : Plan
  pub read : plan_of bytes ≡ Ok plan
  pub run : RunRecord
  pub is_given : given ≡ Some run
  pub played : IsRunOf way seals plan run
  pub examined : verdict ≡ verdict_of (fits_for seals plan) run
  pub printed : text ≡ text_of_run (form_of way) plan run verdict

-- the whole text is written, and the status reports the verdict
abbrev pub IsReported : Way → Seals → List ℕ → Option RunRecord → Option (List ℕ) → Option (List ℕ) → Status → Type 0
IsReported way seals bytes given old new status =
    (verdict : Verdict) × (text : List ℕ) × (played : IsPlayed way seals bytes given verdict text) × (status ≡ status_of played.run verdict) × Took text old new

-- The run that is given, and the sink before and after: the whole text is written once, or a prefix of it if the sink
-- failed, and nothing otherwise.
abbrev pub AnswersRun : Way → Seals → List ℕ → Option RunRecord → Option (List ℕ) → Option (List ℕ) → Status → Type 0
AnswersRun way seals bytes given old new Done = IsReported way seals bytes given old new Done
AnswersRun way seals bytes given old new ReadFault = new ≡ old
AnswersRun way seals bytes given old new WriteFault =
    (verdict : Verdict) × (text : List ℕ) × IsPlayed way seals bytes given verdict text × TookSome text old new
AnswersRun way seals bytes given old new BadWords = ⊥
AnswersRun way seals bytes given old new (BadPlan fault) = new ≡ old
AnswersRun way seals bytes given old new TooLong = new ≡ old
AnswersRun way seals bytes given old new (Open u v) = ⊥
AnswersRun way seals bytes given old new (Stalled turns ticks) = IsReported way seals bytes given old new (Stalled turns ticks)
AnswersRun way seals bytes given old new (Forged at) = IsReported way seals bytes given old new (Forged at)
AnswersRun way seals bytes given old new (Collided at) = IsReported way seals bytes given old new (Collided at)
AnswersRun way seals bytes given old new NoMemory = new ≡ old
AnswersRun way seals bytes given old new (BadTrace at) = ⊥
AnswersRun way seals bytes given old new (Unlawful replica entry rule) = ⊥

-- what the sink received of the text of a run: all of it, or a prefix
abbrev pub Reported : RunRecord → Verdict → List ℕ → Option (List ℕ) → Option (List ℕ) → Status → Type 0
Reported run verdict text old new status =
    ((status ≡ status_of run verdict) × Took text old new) ⊎ ((status ≡ WriteFault) × TookSome text old new)

-- the same for the run of a plan, with its verdict and its text
abbrev pub IsReportedOf : Way → Seals → Plan → RunRecord → Option (List ℕ) → Option (List ℕ) → Status → Type 0
IsReportedOf way seals plan run old new status =
    let verdict : Verdict = verdict_of (fits_for seals plan) run in Reported run verdict (text_of_run (form_of way) plan run verdict) old new status

-- the plan is read, and a run of it ends with this status
abbrev pub EndsSo : Way → Seals → List ℕ → Status → Type 0
EndsSo way seals bytes status =
    (plan : Plan) × (run : RunRecord) × (plan_of bytes ≡ Ok plan) × IsRunOf way seals plan run × (status ≡ status_of run (verdict_of (fits_for seals plan) run))

-- The expected status of an input if nothing fails: it is too long, or it has a fault, or it is a plan a run of which
-- ends so.
abbrev pub IsRunDue : Way → Seals → List ℕ → Status → Type 0
IsRunDue way seals bytes Done = (length bytes ≤ most_input) × EndsSo way seals bytes Done
IsRunDue way seals bytes ReadFault = ⊥
IsRunDue way seals bytes WriteFault = ⊥
IsRunDue way seals bytes BadWords = ⊥
IsRunDue way seals bytes (BadPlan fault) = (length bytes ≤ most_input) × (plan_of bytes ≡ Err fault)
IsRunDue way seals bytes TooLong = most_input < length bytes
IsRunDue way seals bytes (Open u v) = ⊥
IsRunDue way seals bytes (Stalled turns ticks) = (length bytes ≤ most_input) × EndsSo way seals bytes (Stalled turns ticks)
IsRunDue way seals bytes (Forged at) = (length bytes ≤ most_input) × EndsSo way seals bytes (Forged at)
IsRunDue way seals bytes (Collided at) = (length bytes ≤ most_input) × EndsSo way seals bytes (Collided at)
IsRunDue way seals bytes NoMemory = ⊥
IsRunDue way seals bytes (BadTrace at) = ⊥
IsRunDue way seals bytes (Unlawful replica entry rule) = ⊥
