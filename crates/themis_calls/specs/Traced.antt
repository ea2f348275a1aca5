-- The text of a run's trace, and what an audit of it answers.
use Rattle.std.specs.Prelude.{◌≡◌, ◌≤◌, ℕ, List, length, Ok}
use Rattle.audit_core.specs.Finding.{finding_of, shown_by}
use Rattle.run_record.specs.declared.record.RunRecord.{RunRecord}
use Rattle.plan_text.specs.declared.plan.Plan.{Plan}
use Rattle.run_verdict.specs.Verdicts.{verdict_of}
use Rattle.trace_form.specs.Contents.{contents_of, span_of}
use Rattle.trace_form.specs.declared.keys.Keys.TheVariants.{Seed}
use Rattle.trace_form.specs.Fitting.{Traces}
use Rattle.trace_form.specs.Form.{read_of}
use Rattle.trace_form.specs.Spelling.{contents_spelling}
use Rattle.themis_calls.specs.Limits.{most_trace}
use Rattle.themis_calls.specs.declared.outcome.Status.{Status}
use Rattle.themis_calls.specs.Audited.{IsAuditDue, fits_in, status_found}
use Rattle.themis_calls.specs.Replayed.{Seals, fits_for, trace_of_run}

-- the text of the trace of a run of a plan, which the command `trace` writes
abbrev pub trace_text_of : Plan → RunRecord → List ℕ
trace_text_of plan run = contents_spelling (contents_of run (span_of plan.views (Seed plan.seed) plan.height))

-- A text is that of the trace of a run of a plan.
pub record IsTraced (seals : Seals) (plan : Plan) (run : RunRecord) (text : List ℕ) : Type 0 where
  -- it spells the trace, and reads as it
  pub spelled : Traces (trace_of_run plan run) text
  pub read : read_of text ≡ Ok (trace_of_run plan run)
  -- the finding on it is what the verdict on the run shows: no rule is broken
  pub found : finding_of (fits_in seals (trace_of_run plan run)) (trace_of_run plan run).run ≡ shown_by (verdict_of (fits_for seals plan) run)
  -- so an audit of it ends with the status of the verdict, Done if that is Done or Stalled, unless the text is too long
  -- for it
  pub audit : length text ≤ most_trace → (status : Status) → IsAuditDue seals text status
      → status ≡ status_found (shown_by (verdict_of (fits_for seals plan) run))
