-- What an audit that finds no fault implies.
use Rattle.std.proofs.Common.{◌≡◌, ◌⊎◌, ◌<◌, ℕ, List, All, Option, Some, None, Ok, refl, sym, inl, inr, ◌∙◌}
use Rattle.std.specs.Prelude.{◌↔◌}
use Rattle.audit_core.specs.Finding.{finding_by, finding_of, shown_by}
use Rattle.audit_core.specs.Unlawful.{first_unlawful_of}
use Rattle.audit_core.specs.declared.finding.Finding.TheVariants.{Obeys}
use Rattle.audit_core.specs.declared.unlawful.Unlawful.{Unlawful}
use Rattle.audit_laws.specs.Audited.{IsDoneOrStalled}
use Rattle.headline_laws.specs.Headline.{IsOrdered}
use Rattle.headline_laws.specs.Premises.{IsLawfulRun, IsSound}
use Rattle.hss_seal.specs.Any.{any_publics_fit}
use Rattle.node_core.specs.Rows.{Check}
use Rattle.run_record.specs.declared.record.RunRecord.{RunRecord}
use Rattle.run_record.specs.declared.verdict.Verdict.{Verdict}
use Rattle.run_record.specs.declared.verdict.Verdict.TheVariants.{Done as IsDone, Stalled as IsStalled, Forged as IsForged, Collided as IsCollided}
use Rattle.run_verdict.specs.Verdicts.{verdict_of}
use Rattle.trace_form.specs.Fitting.{Traces}
use Rattle.trace_form.specs.Form.{read_of}
use Rattle.trace_form.specs.declared.trace.Trace.{Trace}
use Rattle.trace_audit.specs.Audits.{HasAudited}
use Rattle.trace_audit.specs.Promises.{IsPromised}
use Rattle.trace_audit.specs.declared.auditing.Audited.{Audited}
use Rattle.trace_audit.specs.declared.expected.ExpectedRun.{ExpectedRun}

obeys_by : (verdict : Verdict) → shown_by verdict ≡ Obeys → (verdict ≡ IsDone) ⊎ (verdict ≡ IsStalled)
obeys_by IsDone is = inl refl
obeys_by IsStalled is = inr refl
obeys_by (IsForged at) is = absurd (cc is)
obeys_by (IsCollided at) is = absurd (cc is)

-- The finding is Obeys exactly where no rule is broken, and the verdict shows nothing.
obeys_means : (broken : Option Unlawful) (verdict : Verdict) → finding_by broken verdict ≡ Obeys
    → (broken ≡ None) × ((verdict ≡ IsDone) ⊎ (verdict ≡ IsStalled))
obeys_means None verdict is = (refl, obeys_by verdict is)
obeys_means (Some at) verdict is = absurd (cc is)

obeyed : (fits : Check) (run : RunRecord) → finding_of fits run ≡ Obeys → (first_unlawful_of fits run ≡ None) × IsDoneOrStalled fits run
unfolding finding_of
obeyed fits run is = obeys_means (first_unlawful_of fits run) (verdict_of fits run) is

module _ (spelled : (bytes : List ℕ) (trace : Trace) → All (λ b. b < 256) bytes → read_of bytes ≡ Ok trace → Traces trace bytes)
    (lawful : (fits : Check) (trace : Trace) (bytes : List ℕ) → Traces trace bytes → All (λ b. b < 256) bytes
    → first_unlawful_of fits trace.run ≡ None → IsLawfulRun fits trace.run)
    (ordered : (fits : Check) (trace : Trace) (bytes : List ℕ) → Traces trace bytes → All (λ b. b < 256) bytes
    → first_unlawful_of fits trace.run ≡ None → IsDoneOrStalled fits trace.run → IsOrdered trace.run)
    (sound : (fits : Check) (run : RunRecord) → IsLawfulRun fits run → IsDoneOrStalled fits run ↔ IsSound fits run) where
  pub promised : (bytes : List ℕ) (run : ExpectedRun) (publics : List (List ℕ)) (audited : Audited) → All (λ b. b < 256) bytes
      → HasAudited bytes run publics audited → audited.finding ≡ Obeys → IsPromised bytes run publics audited.faulty
  promised bytes run publics audited each has obeys =
      let fits = any_publics_fit run.height publics in
      let trace = has.trace in
      let traces = spelled bytes trace each has.read.read in
      let means = obeyed fits trace.run (sym has.found ∙ obeys) in
      record {
        trace = trace;
        read = has.read;
        expected = has.expected;
        faulty_are = sym has.faulty;
        sound = (sound fits trace.run (lawful fits trace bytes traces each means.0)).0 means.1;
        ordered = ordered fits trace bytes traces each means.0 means.1;
      }
