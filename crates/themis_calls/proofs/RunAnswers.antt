-- Answers of the commands that run a plan, by the status.
use Rattle.std.proofs.Common.{◌+◌, ◌≡◌, ◌⊎◌, ◌∙◌, ◌≤◌, length, ap, ℕ, true, List, Option, Some, None, IfSome, Ok, refl, sym, subst, inl, inr}
use Rattle.run_record.specs.declared.record.RunRecord.{RunRecord}
use Rattle.run_record.specs.declared.verdict.Verdict.{Verdict}
use Rattle.run_record.specs.declared.verdict.Verdict.TheVariants.{Done as IsDone, Stalled as IsStalled, Forged as IsForged, Collided as IsCollided}
use Rattle.plan_text.specs.declared.plan.Plan.{Plan}
use Rattle.plan_text.specs.Plans.{plan_of}
use Rattle.run_verdict.specs.Verdicts.{verdict_of}
use Rattle.themis_calls.specs.Limits.{most_input}
use Rattle.themis_calls.specs.declared.outcome.Status.{Status}
use Rattle.themis_calls.specs.declared.outcome.Status.TheVariants.{Done, ReadFault, WriteFault, BadWords, BadPlan, TooLong, Open, Stalled, Forged, Collided, NoMemory, BadTrace, Unlawful}
use Rattle.themis_calls.specs.Moved.{Took}
use Rattle.themis_calls.specs.Planned.{AnswersPlan, AnswersPlanInput}
use Rattle.themis_calls.specs.Played.{GetsOn, PlaysPlan}
use Rattle.themis_calls.specs.Replayed.{AnswersRun, ByTurns, EndsSo, InRounds, IsPlayed, IsRunDue, IsRunOf, IsReported, Seals, Reported, Way, fits_for, form_of, status_of, text_of_run}
use Rattle.themis_calls.specs.Statuses.{is_unread}
use Rattle.themis_calls.proofs.CallEnds.{never_written}
use Rattle.themis_calls.proofs.PlanAnswers.{stopped_plans, within_plans}
use Rattle.themis_calls.proofs.ProgressingRuns.{stopped_gets_on}

whole : (way : Way) (seals : Seals) (bytes : List ℕ) (given : Option RunRecord) (verdict : Verdict) (text : List ℕ) (old new : Option (List ℕ))
    → (played : IsPlayed way seals bytes given verdict text) → Took text old new → AnswersRun way seals bytes given old new (status_of played.run verdict)
whole way seals bytes given IsDone text old new played took = (IsDone, text, played, refl, took)
whole way seals bytes given IsStalled text old new played took = (IsStalled, text, played, refl, took)
whole way seals bytes given (IsForged at) text old new played took = (IsForged at, text, played, refl, took)
whole way seals bytes given (IsCollided at) text old new played took = (IsCollided at, text, played, refl, took)

-- a run whose text was made
pub reported_answers : (way : Way) (seals : Seals) (bytes : List ℕ) (plan : Plan) (run : RunRecord) (verdict : Verdict) (text : List ℕ)
    (old new : Option (List ℕ)) (status : Status)
    → plan_of bytes ≡ Ok plan → IsRunOf way seals plan run → verdict ≡ verdict_of (fits_for seals plan) run
    → text ≡ text_of_run (form_of way) plan run verdict → Reported run verdict text old new status
    → AnswersRun way seals bytes (Some run) old new status
reported_answers way seals bytes plan run verdict text old new status is is_run examined printed reported =
    let played : IsPlayed way seals bytes (Some run) verdict text =
    record { plan = plan; read = is; run = run; is_given = refl; played = is_run; examined = examined; printed = printed } in
    elim reported [
      | inl all ↦ subst (AnswersRun way seals bytes (Some run) old new) (sym all.0) (whole way seals bytes (Some run) verdict text old new played all.1)
      | inr prefix ↦ subst (AnswersRun way seals bytes (Some run) old new) (sym prefix.0) (verdict, text, played, prefix.1)
    ]

-- the input that is not read to its end
stopped_runs : (way : Way) (seals : Seals) (bytes : List ℕ) (given : Option RunRecord) (old new : Option (List ℕ)) (status : Status)
    → is_unread status ≡ true → new ≡ old → AnswersRun way seals bytes given old new status
stopped_runs way seals bytes given old new Done unread same = absurd (cc)
stopped_runs way seals bytes given old new ReadFault unread same = same
stopped_runs way seals bytes given old new WriteFault unread same = absurd (cc)
stopped_runs way seals bytes given old new BadWords unread same = absurd (cc)
stopped_runs way seals bytes given old new (BadPlan fault) unread same = absurd (cc)
stopped_runs way seals bytes given old new TooLong unread same = same
stopped_runs way seals bytes given old new (Open u v) unread same = absurd (cc)
stopped_runs way seals bytes given old new (Stalled turns ticks) unread same = absurd (cc)
stopped_runs way seals bytes given old new (Forged at) unread same = absurd (cc)
stopped_runs way seals bytes given old new (Collided at) unread same = absurd (cc)
stopped_runs way seals bytes given old new NoMemory unread same = same
stopped_runs way seals bytes given old new (BadTrace at) unread same = absurd (cc)
stopped_runs way seals bytes given old new (Unlawful replica entry rule) unread same = absurd (cc)

-- ---- what is answered is due, where nothing failed

ended_so : (way : Way) (seals : Seals) (bytes : List ℕ) (given : Option RunRecord) (old new : Option (List ℕ)) (status : Status)
    → IsReported way seals bytes given old new status → EndsSo way seals bytes status
ended_so way seals bytes given old new status reported =
    let played = reported.2 in (played.plan, played.run, played.read, played.played, reported.3 ∙ ap (status_of played.run) played.examined)

run_is_due : (way : Way) (seals : Seals) (bytes : List ℕ) (given : Option RunRecord) (old new : Option (List ℕ)) (status : Status)
    → AnswersPlanInput bytes status → AnswersRun way seals bytes given old new status → (status ≡ ReadFault → ⊥) → (status ≡ WriteFault → ⊥)
    → (status ≡ NoMemory) ⊎ IsRunDue way seals bytes status
run_is_due way seals bytes given old new Done planned answers reads writes = inr (planned.0, ended_so way seals bytes given old new Done answers)
run_is_due way seals bytes given old new ReadFault planned answers reads writes = absurd (reads refl)
run_is_due way seals bytes given old new WriteFault planned answers reads writes = absurd (writes refl)
run_is_due way seals bytes given old new BadWords planned answers reads writes = absurd answers
run_is_due way seals bytes given old new (BadPlan fault) planned answers reads writes = inr planned
run_is_due way seals bytes given old new TooLong planned answers reads writes = inr planned
run_is_due way seals bytes given old new (Open u v) planned answers reads writes = absurd answers
run_is_due way seals bytes given old new (Stalled turns ticks) planned answers reads writes =
    inr (planned.0, ended_so way seals bytes given old new (Stalled turns ticks) answers)
run_is_due way seals bytes given old new (Forged at) planned answers reads writes = inr (planned.0, ended_so way seals bytes given old new (Forged at) answers)
run_is_due way seals bytes given old new (Collided at) planned answers reads writes =
    inr (planned.0, ended_so way seals bytes given old new (Collided at) answers)
run_is_due way seals bytes given old new NoMemory planned answers reads writes = inl refl
run_is_due way seals bytes given old new (BadTrace at) planned answers reads writes = absurd answers
run_is_due way seals bytes given old new (Unlawful replica entry rule) planned answers reads writes = absurd answers

-- ---- all that is answered

pub read_plays : (way : Way) (seals : Seals) (SourceRose SinkRose : Type 0) (left : Option (List ℕ)) (input : List ℕ)
    (given : Option RunRecord) (old new : Option (List ℕ)) (status : Status)
    → IfSome left (λ bytes. input ≡ bytes) → length input ≤ most_input → (status ≡ ReadFault → ⊥) → (status ≡ WriteFault → SinkRose)
    → AnswersPlan input status → AnswersRun way seals input given old new status → GetsOn way seals input status
    → IfSome left (λ bytes. PlaysPlan way seals SourceRose SinkRose bytes given old new status)
read_plays way seals SourceRose SinkRose None input given old new status same within reads writes planned answers clean = tt
read_plays way seals SourceRose SinkRose (Some bytes) input given old new status same within reads writes planned answers clean =
    subst (λ (b : List ℕ). PlaysPlan way seals SourceRose SinkRose b given old new status) same (record {
      plan = plan;
      run = answers;
      due = λ read wrote. run_is_due way seals input given old new status plan answers reads (λ is. wrote (writes is));
      clean = λ read. clean;
    })
  where
    plan : AnswersPlanInput input status
    plan = within_plans input status within planned

pub unread_plays : (way : Way) (seals : Seals) (SourceRose SinkRose : Type 0) (left : Option (List ℕ)) (used : ℕ) (given : Option RunRecord)
    (old new : Option (List ℕ)) (status : Status)
    → is_unread status ≡ true → (status ≡ TooLong → used ≡ most_input + 1) → (status ≡ ReadFault → SourceRose)
    → IfSome left (λ bytes. used ≤ length bytes) → new ≡ old
    → IfSome left (λ bytes. PlaysPlan way seals SourceRose SinkRose bytes given old new status)
unread_plays way seals SourceRose SinkRose None used given old new status unread long reads within same = tt
unread_plays way seals SourceRose SinkRose (Some bytes) used given old new status unread long reads within same = record {
  plan = plan;
  run = answers;
  due = λ read wrote. run_is_due way seals bytes given old new status plan answers (λ is. read (reads is)) (never_written status unread);
  clean = gets_on way;
}
  where
    plan : AnswersPlanInput bytes status
    plan = stopped_plans bytes used status unread long within

    answers : AnswersRun way seals bytes given old new status
    answers = stopped_runs way seals bytes given old new status unread same

    gets_on : (way : Way) → (SourceRose → ⊥) → GetsOn way seals bytes status
    gets_on (ByTurns form) read = stopped_gets_on seals SourceRose status bytes used unread long reads within read
    gets_on InRounds read = tt
