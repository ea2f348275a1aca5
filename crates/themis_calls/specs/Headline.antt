-- What holds of each run that is given.
use Rattle.std.specs.Prelude.{◌≡◌, ◌⊎◌, ◌<◌, ◌≤◌, ◌^◌, ℕ, List, String, length, true, Option, None, IfSome, Ok}
use Rattle.audit_core.specs.Unlawful.{first_unlawful_of}
use Rattle.run_record.specs.declared.record.RunRecord.{RunRecord}
use Rattle.run_record.specs.declared.verdict.Verdict.TheVariants.{Stalled as IsStalled}
use Rattle.plan_text.specs.declared.plan.Plan.{Plan}
use Rattle.plan_text.specs.Plans.{plan_of}
use Rattle.plan_text.specs.Rules.{KeepsRules}
use Rattle.lawful_runs.specs.Spent.{WasSpent}
use Rattle.progress_laws.specs.Clean.{BringsNothing, HasNothingToDo, HasProgressed, IsCleanPlan}
use Rattle.headline_laws.specs.Headline.{IsOrdered}
use Rattle.headline_laws.specs.Premises.{IsLawfulRun, IsSound}
use Rattle.round_rules.specs.Moments.{IsWhole}
use Rattle.round_rules.specs.Ran.{journal_in}
use Rattle.run_verdict.specs.Shown.{IsCollided}
use Rattle.run_verdict.specs.Verdicts.{verdict_of}
use Rattle.std.specs.declared.alloc.Global.{Global}
use Rattle.themis_calls.specs.declared.command.Command.{Command}
use Rattle.themis_calls.specs.declared.command.Command.TheVariants.{Order, Line, Replay, Run, Trace, Audit, Make}
use Rattle.themis_calls.specs.declared.outcome.Status.{Status}
use Rattle.themis_calls.specs.declared.reported.RunForm.TheVariants.{Report, Record}
use Rattle.themis_calls.specs.Audited.{KeepsAudit, fits_in}
use Rattle.themis_calls.specs.Commands.{Names}
use Rattle.themis_calls.specs.Statuses.{is_clean}
use Rattle.themis_calls.specs.Replayed.{IsRunOf, IsReportedOf, Seals, Way, ByTurns, InRounds, fits_for, last_world, trace_of_run}
use Rattle.themis_calls.specs.Traced.{IsTraced, trace_text_of}

-- Why a run of a plan ended before all was done: it used up its turns; or it used up its ticks, and no message was in
-- transit.
abbrev pub HadAll : Way → Seals → Plan → RunRecord → Type 0
HadAll (ByTurns form) seals plan run = WasSpent plan (last_world seals plan) run
HadAll InRounds seals plan run = (plan.turns ≤ run.turns) ⊎ ((run.ticks ≡ plan.ticks) × IsWhole plan (journal_in run))

-- Progress of a run that is played turn by turn.
pub record HasGotOn (seals : Seals) (plan : Plan) (run : RunRecord) : Type 0 where
  -- if the plan is clean and no two blocks of the run have the same digest: done after one tick and at most 10n turns
  pub progressed : IsCleanPlan plan → (¬ IsCollided run) → HasProgressed (fits_for seals plan) run
  -- if nothing arrives: done with no tick and no turn
  pub idle : BringsNothing plan → HasNothingToDo (fits_for seals plan) run

-- Progress of a run in rounds is not claimed.
abbrev pub Progresses : Way → Seals → Plan → RunRecord → Type 0
Progresses (ByTurns form) seals plan run = HasGotOn seals plan run
Progresses InRounds seals plan run = Unit {0}

-- What holds of a run that is given with this status: of the one run of a plan turn by turn, and of each run in rounds.
-- The source had these bytes left and the sink received this, as far as they report bytes.
pub record KeepsOrder (way : Way) (seals : Seals) (left old new : Option (List ℕ)) (status : Status) (run : RunRecord) : Type 0 where
  pub plan : Plan
  -- the plan keeps its rules, and the bytes of the source read as it
  pub rules : KeepsRules plan
  pub read : IfSome left (λ bytes. plan_of bytes ≡ Ok plan)
  -- the run is one of the plan
  pub played : IsRunOf way seals plan run
  -- the status is that of its verdict, and its text is written; or the sink failed, and has a prefix of the text
  pub reported : IsReportedOf way seals plan run old new status
  -- if it stalled, it used up its turns, or no message was in transit and it used up its ticks
  pub spent : verdict_of (fits_for seals plan) run ≡ IsStalled → HadAll way seals plan run
  -- at most f replicas are faulty, each honest journal is lawful, and each honest batch list is that of its journal
  pub lawful : IsLawfulRun (fits_for seals plan) run
  -- so its trace passes an audit: by the seals that fit in the trace, no rule is broken there
  pub passes : first_unlawful_of (fits_in seals (trace_of_run plan run)) (trace_of_run plan run).run ≡ None
  -- the text of this trace, if it has fewer than 2^32 bytes, reads as the trace, and an audit of it ends as the verdict
  -- shows
  pub traced : length (trace_text_of plan run) < 2 ^ 32 → IsTraced seals plan run (trace_text_of plan run)
  -- if it shows no forged seal and no two blocks with the same digest, the headline holds
  pub sound : IsSound (fits_for seals plan) run → IsOrdered run
  -- so the headline holds without a premise if the status is Done or Stalled
  pub clean : is_clean status ≡ true → IsOrdered run
  -- a run turn by turn is done if the plan is clean, or if nothing arrives
  pub progress : Progresses way seals plan run

-- ---- by the command

-- what holds of a run that a command gives; some commands give none
abbrev pub HoldsOf : Command → Seals → Option (List ℕ) → Option (List ℕ) → Option (List ℕ) → Status → RunRecord → Type 0
HoldsOf Order seals left old new status run = ⊥
HoldsOf Line seals left old new status run = ⊥
HoldsOf Replay seals left old new status run = KeepsOrder (ByTurns Report) seals left old new status run
HoldsOf Run seals left old new status run = KeepsOrder InRounds seals left old new status run
HoldsOf Trace seals left old new status run = KeepsOrder (ByTurns Record) seals left old new status run
HoldsOf Audit seals left old new status run = KeepsAudit seals left old new status run
HoldsOf (Make seed count) seals left old new status run = ⊥

-- the same for the command that the arguments name
abbrev pub IsGiven : List (String Global) → Seals → Option (List ℕ) → Option (List ℕ) → Option (List ℕ) → Status → RunRecord → Type 0
IsGiven words seals left old new status run = (command : Command) × Names words command × HoldsOf command seals left old new status run
