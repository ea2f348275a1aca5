-- The run that is given: which it is, and what holds of it.
use Rattle.std.proofs.Common.{◌≡◌, ◌⊎◌, ◌<◌, ◌^◌, ℕ, true, String, Global, List, map, length, All, Option, Some, None, IfSome, Ok, refl, sym, ap, subst, ◌∙◌, inl, inr}
use Rattle.std.specs.List.{range_with_len}
use Rattle.audit_core.specs.Unlawful.{first_unlawful_of}
use Rattle.fault_script.specs.Sealing.{Signer, signer}
use Rattle.node_core.specs.Rows.{Check}
use Rattle.node_core.specs.Reported.{Gives}
use Rattle.run_record.specs.declared.record.RunRecord.{RunRecord}
use Rattle.run_record.specs.declared.verdict.Verdict.{Verdict}
use Rattle.run_record.specs.declared.verdict.Verdict.TheVariants.{Done as IsDone, Stalled as IsStalled, Forged as IsForged, Collided as IsCollided}
use Rattle.plan_text.specs.declared.plan.Plan.{Plan}
use Rattle.plan_text.specs.Plans.{plan_of}
use Rattle.plan_text.specs.Rules.{KeepsRules}
use Rattle.lawful_runs.specs.Lawful.{AreMadeFor, IsReadableRun}
use Rattle.lawful_runs.specs.Spent.{WasSpent}
use Rattle.headline_laws.specs.Headline.{IsOrdered}
use Rattle.headline_laws.specs.Premises.{IsLawfulRun, IsSound}
use Rattle.replica_seat.specs.Kits.{kit_of}
use Rattle.replay_run.specs.Over.{last_of}
use Rattle.replay_run.specs.Play.{play_of, record_of}
use Rattle.run_verdict.specs.Verdicts.{verdict_of}
use Rattle.seal_kit.specs.Seals.{capacity_of}
use Rattle.seq_base.specs.Setting.{Parameters}
use Rattle.trace_form.specs.Contents.{bared, span_of}
use Rattle.trace_form.specs.declared.keys.Keys.TheVariants.{Seed}
use Rattle.trace_form.specs.declared.opening.Span.{Span}
use Rattle.progress_laws.proofs.Kits.{kit_is_made}
use Rattle.restart_run.proofs.Kits.{made_kit}
use Rattle.themis_calls.specs.declared.outcome.Status.{Status}
use Rattle.themis_calls.specs.declared.outcome.Status.TheVariants.{WriteFault}
use Rattle.themis_calls.specs.declared.command.Command.{Command}
use Rattle.themis_calls.specs.Audited.{fits_in}
use Rattle.themis_calls.specs.Commands.{Names}
use Rattle.themis_calls.specs.Headline.{HadAll, HoldsOf, IsGiven, KeepsOrder, Progresses}
use Rattle.themis_calls.specs.Replayed.{IsRunOf, IsReportedOf, Seals, Reported, Way, ByTurns, InRounds, fits_for, form_of, gives_for, kit_for, last_world, run_of, status_of, text_of_run, trace_of_run}
use Rattle.themis_calls.specs.Statuses.{is_clean}
use Rattle.themis_calls.specs.Traced.{IsTraced, trace_text_of}

-- ---- the run of a kit that was made for the plan

pub run_is : {S : Type 0} (replica capacity made : S → ℕ) (own : S → Gives) (meaning : Check) (seals : Seals) (plan : Plan) (n : ℕ)
    (run : RunRecord) (sealers : List S)
    → n ≡ plan.setting.n → run ≡ play_of meaning plan (map (λ s. signer (replica s) (capacity s) (own s) (made s)) sealers)
    → meaning ≡ seals.fits plan.seed plan.height n
    → map replica sealers ≡ range_with_len 0 n → All (λ s. made s ≡ 0) sealers → All (λ s. capacity s ≡ capacity_of plan.height) sealers
    → All (λ s. own s ≡ seals.gives plan.seed plan.height n (replica s)) sealers
    → run ≡ run_of seals plan
unfolding run_of
run_is replica capacity made own meaning seals plan n run sealers as_many played same numbers fresh room gives =
    let kit : map (λ s. signer (replica s) (capacity s) (own s) (made s)) sealers ≡ kit_of (seals.gives plan.seed plan.height n) (capacity_of plan.height) n =
    made_kit replica capacity made own (seals.gives plan.seed plan.height n) (capacity_of plan.height) n sealers numbers fresh room gives in
    played
    ∙ ap (λ (fits : Check). play_of fits plan (map (λ s. signer (replica s) (capacity s) (own s) (made s)) sealers)) same
    ∙ ap (play_of (seals.fits plan.seed plan.height n) plan) kit
    ∙ ap (λ (k : ℕ). play_of (seals.fits plan.seed plan.height k) plan (kit_of (seals.gives plan.seed plan.height k) (capacity_of plan.height) k)) as_many

pub made_for : (seals : Seals) (plan : Plan) → AreMadeFor plan (kit_for seals plan)
made_for seals plan = kit_is_made (gives_for seals plan) (capacity_of plan.height) plan

-- ---- what holds of it

reported_of_run : (way : Way) (seals : Seals) (plan : Plan) (run : RunRecord) (verdict : Verdict) (text : List ℕ) (old new : Option (List ℕ)) (status : Status)
    → verdict ≡ verdict_of (fits_for seals plan) run → text ≡ text_of_run (form_of way) plan run verdict → Reported run verdict text old new status
    → IsReportedOf way seals plan run old new status
reported_of_run way seals plan run verdict text old new status examined printed reported =
    subst (λ (v : Verdict). Reported run v (text_of_run (form_of way) plan run v) old new status) examined
    (subst (λ (t : List ℕ). Reported run verdict t old new status) printed reported)

clean_verdict : (run : RunRecord) (verdict : Verdict) → is_clean (status_of run verdict) ≡ true → (verdict ≡ IsDone) ⊎ (verdict ≡ IsStalled)
clean_verdict run IsDone clean = inl refl
clean_verdict run IsStalled clean = inr refl
clean_verdict run (IsForged at) clean = absurd (cc)
clean_verdict run (IsCollided at) clean = absurd (cc)

-- a run has the setting of its plan
pub setting_kept : (way : Way) (seals : Seals) (plan : Plan) (run : RunRecord) → IsRunOf way seals plan run → run.setting ≡ plan.setting
unfolding run_of record_of
setting_kept (ByTurns form) seals plan run is = ap (λ (r : RunRecord). r.setting) is
setting_kept InRounds seals plan run ran = ran.shape.setting

-- so what fits in its trace is what fits in the run
trace_passes : (way : Way) (seals : Seals) (plan : Plan) (run : RunRecord)
    → ((fits : Check) (run : RunRecord) (span : Span) → IsLawfulRun fits run → first_unlawful_of fits (bared run span).run ≡ None)
    → IsRunOf way seals plan run → IsLawfulRun (fits_for seals plan) run
    → first_unlawful_of (fits_in seals (trace_of_run plan run)) (trace_of_run plan run).run ≡ None
trace_passes way seals plan run law played lawful =
    subst (λ (s : Parameters). first_unlawful_of (seals.fits plan.seed plan.height s.n) (trace_of_run plan run).run ≡ None)
    (sym (setting_kept way seals plan run played))
    (law (fits_for seals plan) run (span_of plan.views (Seed plan.seed) plan.height) lawful)

-- a run that is lawful, whose text was made, keeps order
pub order_kept : (way : Way) (seals : Seals) (bytes : List ℕ) (plan : Plan) (run : RunRecord) (verdict : Verdict) (text : List ℕ)
    (old new : Option (List ℕ)) (status : Status)
    → ((fits : Check) (run : RunRecord) → IsSound fits run → IsOrdered run)
    → ((fits : Check) (run : RunRecord) → IsLawfulRun fits run → (verdict_of fits run ≡ IsDone) ⊎ (verdict_of fits run ≡ IsStalled) → IsOrdered run)
    → ((fits : Check) (run : RunRecord) (span : Span) → IsLawfulRun fits run → first_unlawful_of fits (bared run span).run ≡ None)
    → plan_of bytes ≡ Ok plan → KeepsRules plan → IsRunOf way seals plan run → verdict ≡ verdict_of (fits_for seals plan) run
    → text ≡ text_of_run (form_of way) plan run verdict → Reported run verdict text old new status → IsLawfulRun (fits_for seals plan) run
    → (length (trace_text_of plan run) < 2 ^ 32 → IsTraced seals plan run (trace_text_of plan run))
    → (verdict_of (fits_for seals plan) run ≡ IsStalled → HadAll way seals plan run) → Progresses way seals plan run
    → KeepsOrder way seals (Some bytes) old new status run
order_kept way seals bytes plan run verdict text old new status sound_law audited_law passes_law read rules played examined printed reported
    lawful traced spent progress = record {
      plan = plan;
      rules = rules;
      read = read;
      played = played;
      reported = reported_of_run way seals plan run verdict text old new status examined printed reported;
      spent = spent;
      lawful = lawful;
      passes = trace_passes way seals plan run passes_law played lawful;
      traced = traced;
      sound = sound_law (fits_for seals plan) run;
      clean = λ clean. elim reported [
        | inl all ↦ audited_law (fits_for seals plan) run lawful
            (subst (λ (v : Verdict). (v ≡ IsDone) ⊎ (v ≡ IsStalled)) examined (clean_verdict run verdict (ap is_clean (sym all.0) ∙ clean)))
        | inr prefix ↦ absurd (let wrong : is_clean WriteFault ≡ true = ap is_clean (sym prefix.0) ∙ clean in cc)
      ];
      progress = progress;
    }

-- ---- turn by turn

pub lawful_by_turns : (seals : Seals) (bytes : List ℕ) (plan : Plan) (run : RunRecord)
    → ((fits : Check) (bytes : List ℕ) (plan : Plan) (sealers : List Signer) → plan_of bytes ≡ Ok plan → KeepsRules plan
    → AreMadeFor plan sealers → IsReadableRun (play_of fits plan sealers) → IsLawfulRun fits (play_of fits plan sealers))
    → plan_of bytes ≡ Ok plan → KeepsRules plan → run ≡ run_of seals plan → IsReadableRun run → IsLawfulRun (fits_for seals plan) run
unfolding run_of
lawful_by_turns seals bytes plan run law read rules is readable =
    subst (IsLawfulRun (fits_for seals plan)) (sym is)
    (law (fits_for seals plan) bytes plan (kit_for seals plan) read rules (made_for seals plan) (subst IsReadableRun is readable))

pub spent_by_turns : (seals : Seals) (plan : Plan) (run : RunRecord)
    → ((fits : Check) (plan : Plan) (sealers : List Signer) → length sealers ≡ plan.setting.n → verdict_of fits (play_of fits plan sealers) ≡ IsStalled
    → WasSpent plan (last_of fits plan sealers) (play_of fits plan sealers))
    → run ≡ run_of seals plan → verdict_of (fits_for seals plan) run ≡ IsStalled → WasSpent plan (last_world seals plan) run
unfolding run_of last_world
spent_by_turns seals plan run law is stalled =
    subst (WasSpent plan (last_of (fits_for seals plan) plan (kit_for seals plan))) (sym is)
    (law (fits_for seals plan) plan (kit_for seals plan) (made_for seals plan).count
    (subst (λ (r : RunRecord). verdict_of (fits_for seals plan) r ≡ IsStalled) is stalled))

-- ---- by what the source tells, and by the command

-- what the source tells is what was read
pub order_of_source : (way : Way) (seals : Seals) (left : Option (List ℕ)) (input : List ℕ) (old new : Option (List ℕ))
    (status : Status) (given : Option RunRecord)
    → IfSome left (λ bytes. input ≡ bytes)
    → IfSome given (KeepsOrder way seals (Some input) old new status) → IfSome given (KeepsOrder way seals left old new status)
order_of_source way seals left input old new status None same kept = tt
order_of_source way seals left input old new status (Some run) same kept = record {
  plan = kept.plan;
  rules = kept.rules;
  read = by left same;
  played = kept.played;
  reported = kept.reported;
  spent = kept.spent;
  lawful = kept.lawful;
  passes = kept.passes;
  traced = kept.traced;
  sound = kept.sound;
  clean = kept.clean;
  progress = kept.progress;
}
  where
    by : (left : Option (List ℕ)) → IfSome left (λ bytes. input ≡ bytes) → IfSome left (λ bytes. plan_of bytes ≡ Ok kept.plan)
    by None same = tt
    by (Some bytes) same = subst (λ (b : List ℕ). plan_of b ≡ Ok kept.plan) same kept.read

-- what holds of a run that is given by one command is what holds of it by the command that the words name
pub given_by_name : (words : List (String Global)) (command : Command) (seals : Seals) (left old new : Option (List ℕ)) (status : Status)
    (given : Option RunRecord)
    → Names words command → IfSome given (HoldsOf command seals left old new status) → IfSome given (IsGiven words seals left old new status)
given_by_name words command seals left old new status None is holds = tt
given_by_name words command seals left old new status (Some run) is holds = (command, is, holds)
