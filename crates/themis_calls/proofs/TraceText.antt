-- The text of the trace of a run is read as it, and found to be what the verdict shows.
use Rattle.std.proofs.Common.{◌≡◌, ◌∙◌, ◌<◌, ◌≤◌, ◌^◌, ℕ, List, length, Option, None, Ok, Err, sym, ap, subst, inl, inr, arith}
use Rattle.audit_core.specs.Finding.{finding_by, finding_of, shown_by}
use Rattle.audit_core.specs.Unlawful.{first_unlawful_of}
use Rattle.audit_core.specs.declared.unlawful.Unlawful.{Unlawful as Place}
use Rattle.node_core.specs.Rows.{Check}
use Rattle.run_record.specs.declared.record.RunRecord.{RunRecord}
use Rattle.run_record.specs.declared.verdict.Verdict.{Verdict}
use Rattle.fault_script.specs.Sealing.{Signer}
use Rattle.plan_text.specs.declared.plan.Plan.{Plan}
use Rattle.plan_text.specs.Plans.{plan_of}
use Rattle.plan_text.specs.Rules.{KeepsRules}
use Rattle.headline_laws.specs.Premises.{IsLawfulRun}
use Rattle.replay_run.specs.Play.{play_of}
use Rattle.replica_seat.specs.Arrivals.{IsArrivalList}
use Rattle.replica_seat.specs.Feed.{timed_for, txs_of}
use Rattle.lawful_runs.specs.Lawful.{AreMadeFor}
use Rattle.lawful_runs.specs.RunClaims.{HasArrivalLists}
use Rattle.run_verdict.specs.Verdicts.{verdict_of}
use Rattle.seq_base.specs.Setting.{Parameters}
use Rattle.trace_form.specs.declared.keys.Keys.TheVariants.{Seed}
use Rattle.trace_form.specs.declared.opening.Span.{Span}
use Rattle.trace_form.specs.declared.trace.Trace.{Trace}
use Rattle.trace_form.specs.Contents.{bared, span_of}
use Rattle.trace_form.specs.Fitting.{Traces}
use Rattle.trace_form.specs.Form.{read_of}
use Rattle.trace_laws.specs.Form.{FitsForm, IsSpelled}
use Rattle.themis_calls.specs.declared.outcome.Status.{Status}
use Rattle.themis_calls.specs.Audited.{IsAuditDue, fits_in, status_found}
use Rattle.themis_calls.specs.Limits.{most_trace}
use Rattle.themis_calls.specs.Replayed.{IsRunOf, Seals, Way, fits_for, kit_for, run_of, trace_of_run}
use Rattle.themis_calls.specs.Traced.{IsTraced, trace_text_of}
use Rattle.themis_calls.proofs.GivenRun.{made_for, setting_kept}

-- The laws that it rests on, as the lower crates state them.
pub record Laws : Type 0 where
  pub spelled : (fits : Check) (run : RunRecord) (span : Span) → IsLawfulRun fits run → FitsForm run span → IsSpelled run span
  pub read : (trace : Trace) (bytes : List ℕ) → Traces trace bytes → read_of bytes ≡ Ok trace
  pub passes : (fits : Check) (run : RunRecord) (span : Span) → IsLawfulRun fits run → first_unlawful_of fits (bared run span).run ≡ None
  pub verdict : (fits : Check) (run : RunRecord) (span : Span) → run.setting.n ≤ length run.batches → verdict_of fits (bared run span).run ≡ verdict_of fits run

-- what is due to a text that is read so
due_is : (seals : Seals) (text : List ℕ) (trace : Trace) (verdict : Verdict) → read_of text ≡ Ok trace
    → finding_of (fits_in seals trace) trace.run ≡ shown_by verdict
    → length text ≤ most_trace → (status : Status) → IsAuditDue seals text status → status ≡ status_found (shown_by verdict)
due_is seals text trace verdict read found within status due = elim due [
  | inl long ↦ absurd (omega (arith, within, long.1))
  | inr inside ↦ elim inside.1 [
    | inl bad ↦ absurd (let wrong : Err bad.0 ≡ Ok trace = sym bad.2 ∙ read in cc wrong)
    | inr so ↦
        let same : so.0 ≡ trace = (let is : Ok so.0 ≡ Ok trace = sym so.1 ∙ read in cc) in
        so.2 ∙ ap (λ (t : Trace). status_found (finding_of (fits_in seals t) t.run)) same ∙ ap status_found found
  ]
]

pub traced : (laws : Laws) (way : Way) (seals : Seals) (plan : Plan) (run : RunRecord) → IsRunOf way seals plan run → IsLawfulRun (fits_for seals plan) run
    → FitsForm run (span_of plan.views (Seed plan.seed) plan.height) → length (trace_text_of plan run) < 2 ^ 32
    → IsTraced seals plan run (trace_text_of plan run)
unfolding finding_of
traced laws way seals plan run played lawful form short = record {
  spelled = spelled;
  read = read;
  found = found;
  audit = due_is seals (trace_text_of plan run) trace (verdict_of fits run) read found;
}
  where
    fits : Check
    fits = fits_for seals plan

    span : Span
    span = span_of plan.views (Seed plan.seed) plan.height

    trace : Trace
    trace = trace_of_run plan run

    spelled : Traces trace (trace_text_of plan run)
    spelled = laws.spelled fits run span lawful form short

    read : read_of (trace_text_of plan run) ≡ Ok trace
    read = laws.read trace (trace_text_of plan run) spelled

    by_fits : finding_of fits trace.run ≡ shown_by (verdict_of fits run)
    by_fits =
        ap (λ (first : Option Place). finding_by first (verdict_of fits trace.run)) (laws.passes fits run span lawful)
        ∙ ap shown_by (laws.verdict fits run span (omega (arith, form.each_batch)))

    found : finding_of (fits_in seals trace) trace.run ≡ shown_by (verdict_of fits run)
    found = subst (λ (s : Parameters). finding_of (seals.fits plan.seed plan.height s.n) trace.run ≡ shown_by (verdict_of fits run))
        (sym (setting_kept way seals plan run played)) by_fits

-- ---- turn by turn

pub form_by_turns : (seals : Seals) (bytes : List ℕ) (plan : Plan) (run : RunRecord)
    → ((fits : Check) (plan : Plan) (sealers : List Signer) → KeepsRules plan → AreMadeFor plan sealers → HasArrivalLists plan
    → FitsForm (play_of fits plan sealers) (span_of plan.views (Seed plan.seed) plan.height))
    → ((bytes : List ℕ) (plan : Plan) (r : ℕ) → plan_of bytes ≡ Ok plan → KeepsRules plan → r < plan.setting.n → IsArrivalList (txs_of (timed_for plan r)))
    → plan_of bytes ≡ Ok plan → KeepsRules plan → run ≡ run_of seals plan → FitsForm run (span_of plan.views (Seed plan.seed) plan.height)
unfolding run_of
form_by_turns seals bytes plan run law lists read rules is =
    subst (λ (r : RunRecord). FitsForm r (span_of plan.views (Seed plan.seed) plan.height)) (sym is)
    (law (fits_for seals plan) plan (kit_for seals plan) rules (made_for seals plan) (λ r below. lists bytes plan r read rules below))
