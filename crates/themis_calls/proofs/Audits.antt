-- Answers of the command `audit`, by the status.
use Rattle.std.proofs.Common.{◌≡◌, ◌⊎◌, ◌∙◌, ◌<◌, ◌≤◌, ℕ, zero, suc, true, List, [], ◌∷◌, length, get_or, All, Option, Some, None, IfSome, Ok, refl, sym, ap, subst, inl, inr, arith}
use Rattle.audit_core.specs.Finding.{finding_by, finding_of}
use Rattle.audit_core.specs.Unlawful.{first_unlawful_of}
use Rattle.audit_core.specs.declared.finding.Finding.{Finding}
use Rattle.audit_core.specs.declared.finding.Finding.TheVariants.{Obeys, Breaks, Forged as ShowsForged, Collided as ShowsCollided}
use Rattle.audit_core.specs.declared.unlawful.Unlawful.{Unlawful as Place}
use Rattle.node_core.specs.Rows.{Check}
use Rattle.run_record.specs.declared.record.RunRecord.{RunRecord}
use Rattle.run_record.specs.declared.verdict.Verdict.{Verdict}
use Rattle.run_record.specs.declared.verdict.Verdict.TheVariants.{Done as IsDone, Stalled as IsStalled, Forged as IsForged, Collided as IsCollided}
use Rattle.headline_laws.specs.Headline.{IsOrdered}
use Rattle.headline_laws.specs.Premises.{IsLawfulRun}
use Rattle.run_verdict.specs.Verdicts.{verdict_of}
use Rattle.trace_form.specs.Fitting.{Traces}
use Rattle.trace_form.specs.Form.{read_of}
use Rattle.trace_form.specs.declared.trace.Trace.{Trace}
use Rattle.themis_calls.specs.Limits.{most_trace}
use Rattle.themis_calls.specs.declared.outcome.Status.{Status}
use Rattle.themis_calls.specs.declared.outcome.Status.TheVariants.{Done, ReadFault, WriteFault, BadWords, BadPlan, TooLong, Open, Stalled, Forged, Collided, NoMemory, BadTrace, Unlawful}
use Rattle.themis_calls.specs.Audited.{AnswersAudit, AuditsTrace, IsAudited, IsAuditDue, IsFound, IsFoundSo, IsReportedOfTrace, KeepsAudit, ReportedFinding, fits_in, status_found, text_of_audit}
use Rattle.themis_calls.specs.Replayed.{Seals}
use Rattle.themis_calls.specs.Statuses.{is_unread}

-- ---- what is answered is due, where nothing failed

found_so : (seals : Seals) (bytes : List ℕ) (given : Option RunRecord) (old new : Option (List ℕ)) (status : Status)
    → IsFound seals bytes given old new status → IsFoundSo seals bytes status
found_so seals bytes given old new status found = let audited = found.2 in (audited.trace, audited.read, found.3 ∙ ap status_found audited.found)

audit_is_due : (seals : Seals) (bytes : List ℕ) (given : Option RunRecord) (old new : Option (List ℕ)) (status : Status)
    → length bytes ≤ most_trace → AnswersAudit seals bytes given old new status → (status ≡ ReadFault → ⊥) → (status ≡ WriteFault → ⊥)
    → (status ≡ NoMemory) ⊎ IsAuditDue seals bytes status
audit_is_due seals bytes given old new Done within answers reads writes = inr (inr (within, inr (found_so seals bytes given old new Done answers)))
audit_is_due seals bytes given old new ReadFault within answers reads writes = absurd (reads refl)
audit_is_due seals bytes given old new WriteFault within answers reads writes = absurd (writes refl)
audit_is_due seals bytes given old new BadWords within answers reads writes = absurd answers
audit_is_due seals bytes given old new (BadPlan fault) within answers reads writes = absurd answers
audit_is_due seals bytes given old new TooLong within answers reads writes = inr (inl (refl, answers.0))
audit_is_due seals bytes given old new (Open u v) within answers reads writes = absurd answers
audit_is_due seals bytes given old new (Stalled turns ticks) within answers reads writes = absurd answers
audit_is_due seals bytes given old new (Forged at) within answers reads writes =
    inr (inr (within, inr (found_so seals bytes given old new (Forged at) answers)))
audit_is_due seals bytes given old new (Collided at) within answers reads writes =
    inr (inr (within, inr (found_so seals bytes given old new (Collided at) answers)))
audit_is_due seals bytes given old new NoMemory within answers reads writes = inl refl
audit_is_due seals bytes given old new (BadTrace at) within answers reads writes = inr (inr (within, inl (at, refl, answers.0)))
audit_is_due seals bytes given old new (Unlawful replica entry rule) within answers reads writes =
    inr (inr (within, inr (found_so seals bytes given old new (Unlawful replica entry rule) answers)))

-- ---- an input that is not read to its end

stopped_audits : (seals : Seals) (SourceRose SinkRose : Type 0) (bytes : List ℕ) (given : Option RunRecord) (old new : Option (List ℕ)) (status : Status)
    → is_unread status ≡ true → (status ≡ TooLong → most_trace < length bytes) → (status ≡ ReadFault → SourceRose) → new ≡ old
    → AuditsTrace seals SourceRose SinkRose bytes given old new status
stopped_audits seals SourceRose SinkRose bytes given old new Done unread long reads same = absurd (cc)
stopped_audits seals SourceRose SinkRose bytes given old new ReadFault unread long reads same =
    record { answers = same; due = λ read wrote. absurd (read (reads refl)) }
stopped_audits seals SourceRose SinkRose bytes given old new WriteFault unread long reads same = absurd (cc)
stopped_audits seals SourceRose SinkRose bytes given old new BadWords unread long reads same = absurd (cc)
stopped_audits seals SourceRose SinkRose bytes given old new (BadPlan fault) unread long reads same = absurd (cc)
stopped_audits seals SourceRose SinkRose bytes given old new TooLong unread long reads same =
    record { answers = (long refl, same); due = λ read wrote. inr (inl (refl, long refl)) }
stopped_audits seals SourceRose SinkRose bytes given old new (Open u v) unread long reads same = absurd (cc)
stopped_audits seals SourceRose SinkRose bytes given old new (Stalled turns ticks) unread long reads same = absurd (cc)
stopped_audits seals SourceRose SinkRose bytes given old new (Forged at) unread long reads same = absurd (cc)
stopped_audits seals SourceRose SinkRose bytes given old new (Collided at) unread long reads same = absurd (cc)
stopped_audits seals SourceRose SinkRose bytes given old new NoMemory unread long reads same = record { answers = same; due = λ read wrote. inl refl }
stopped_audits seals SourceRose SinkRose bytes given old new (BadTrace at) unread long reads same = absurd (cc)
stopped_audits seals SourceRose SinkRose bytes given old new (Unlawful replica entry rule) unread long reads same = absurd (cc)

-- ---- all that is answered

pub read_audits : (seals : Seals) (SourceRose SinkRose : Type 0) (left : Option (List ℕ)) (input : List ℕ) (given : Option RunRecord)
    (old new : Option (List ℕ)) (status : Status)
    → IfSome left (λ bytes. input ≡ bytes) → length input ≤ most_trace → (status ≡ ReadFault → ⊥) → (status ≡ WriteFault → SinkRose)
    → AnswersAudit seals input given old new status → IfSome left (λ bytes. AuditsTrace seals SourceRose SinkRose bytes given old new status)
read_audits seals SourceRose SinkRose None input given old new status same within reads writes answers = tt
read_audits seals SourceRose SinkRose (Some bytes) input given old new status same within reads writes answers =
    subst (λ (b : List ℕ). AuditsTrace seals SourceRose SinkRose b given old new status) same (record {
      answers = answers;
      due = λ read wrote. audit_is_due seals input given old new status within answers reads (λ is. wrote (writes is));
    })

pub unread_audits : (seals : Seals) (SourceRose SinkRose : Type 0) (left : Option (List ℕ)) (used : ℕ) (given : Option RunRecord)
    (old new : Option (List ℕ)) (status : Status)
    → is_unread status ≡ true → (status ≡ TooLong → used ≡ 67108865) → (status ≡ ReadFault → SourceRose)
    → IfSome left (λ bytes. used ≤ length bytes) → new ≡ old
    → IfSome left (λ bytes. AuditsTrace seals SourceRose SinkRose bytes given old new status)
unread_audits seals SourceRose SinkRose None used given old new status unread long reads within same = tt
unread_audits seals SourceRose SinkRose (Some bytes) used given old new status unread long reads within same =
    stopped_audits seals SourceRose SinkRose bytes given old new status unread (λ is. omega (arith, long is, within)) reads same

-- ---- the answer once the text is written, or a prefix of it

answers_found : (seals : Seals) (bytes : List ℕ) (given : Option RunRecord) (old new : Option (List ℕ)) (finding : Finding)
    → IsFound seals bytes given old new (status_found finding) → AnswersAudit seals bytes given old new (status_found finding)
answers_found seals bytes given old new Obeys found = found
answers_found seals bytes given old new (Breaks replica entry rule) found = found
answers_found seals bytes given old new (ShowsForged at) found = found
answers_found seals bytes given old new (ShowsCollided at) found = found

pub reported_answers : (seals : Seals) (bytes : List ℕ) (trace : Trace) (finding : Finding) (text : List ℕ) (old new : Option (List ℕ)) (status : Status)
    → read_of bytes ≡ Ok trace → finding ≡ finding_of (fits_in seals trace) trace.run → text ≡ text_of_audit trace finding
    → ReportedFinding finding text old new status → AnswersAudit seals bytes (Some trace.run) old new status
reported_answers seals bytes trace finding text old new status read found printed reported = elim reported [
  | inl all ↦ subst (λ (s : Status). AnswersAudit seals bytes (Some trace.run) old new s) (sym all.0)
      (answers_found seals bytes (Some trace.run) old new finding (finding, text, audited, refl, all.1))
  | inr part ↦ subst (λ (s : Status). AnswersAudit seals bytes (Some trace.run) old new s) (sym part.0) (finding, text, audited, part.1)
]
  where
    audited : IsAudited seals bytes (Some trace.run) finding text
    audited = record { trace = trace; read = read; is_given = refl; found = found; printed = printed }

-- ---- what holds of the record

yes_means : (first : Option Place) (verdict : Verdict) → Done ≡ status_found (finding_by first verdict)
    → (first ≡ None) × ((verdict ≡ IsDone) ⊎ (verdict ≡ IsStalled))
yes_means (Some at) verdict says = absurd (cc)
yes_means None IsDone says = (refl, inl refl)
yes_means None IsStalled says = (refl, inr refl)
yes_means None (IsForged at) says = absurd (cc)
yes_means None (IsCollided at) says = absurd (cc)

-- what is told of it, and its text
reported_of_trace : (seals : Seals) (trace : Trace) (finding : Finding) (text : List ℕ) (old new : Option (List ℕ)) (status : Status)
    → finding ≡ finding_of (fits_in seals trace) trace.run → text ≡ text_of_audit trace finding → ReportedFinding finding text old new status
    → IsReportedOfTrace seals trace old new status
reported_of_trace seals trace finding text old new status found printed reported =
    subst (λ (f : Finding). ReportedFinding f (text_of_audit trace f) old new status) found
    (subst (λ (t : List ℕ). ReportedFinding finding t old new status) printed reported)

pub audit_kept : (seals : Seals) (bytes : List ℕ) (trace : Trace) (finding : Finding) (text : List ℕ) (old new : Option (List ℕ)) (status : Status)
    → (first_unlawful_of (fits_in seals trace) trace.run ≡ None → IsLawfulRun (fits_in seals trace) trace.run)
    → ((fits : Check) (run : RunRecord) → IsLawfulRun fits run → (verdict_of fits run ≡ IsDone) ⊎ (verdict_of fits run ≡ IsStalled) → IsOrdered run)
    → read_of bytes ≡ Ok trace → Traces trace bytes → finding ≡ finding_of (fits_in seals trace) trace.run → text ≡ text_of_audit trace finding
    → ReportedFinding finding text old new status → KeepsAudit seals (Some bytes) old new status trace.run
unfolding finding_of
audit_kept seals bytes trace finding text old new status lawful examined read spelled found printed reported = record {
  trace = trace;
  spelled = (bytes, spelled);
  read = read;
  given = refl;
  reported = reported_of_trace seals trace finding text old new status found printed reported;
  lawful = lawful;
  ordered = λ done. elim reported [
    | inl all ↦
        let means = yes_means (first_unlawful_of fits trace.run) (verdict_of fits trace.run) (sym done ∙ all.0 ∙ ap status_found found) in
        examined fits trace.run (lawful means.0) means.1
    | inr prefix ↦ absurd (let wrong : Done ≡ WriteFault = sym done ∙ prefix.0 in cc wrong)
  ];
}
  where
    fits : Check
    fits = fits_in seals trace

-- what the source tells is what was read
pub audit_of_source : (seals : Seals)
    (left : Option (List ℕ)) (input : List ℕ) (old new : Option (List ℕ)) (status : Status) (given : Option RunRecord)
    → IfSome left (λ bytes. input ≡ bytes)
    → IfSome given (KeepsAudit seals (Some input) old new status) → IfSome given (KeepsAudit seals left old new status)
audit_of_source seals left input old new status None same kept = tt
audit_of_source seals left input old new status (Some run) same kept = record {
  trace = kept.trace;
  spelled = kept.spelled;
  read = by left same;
  given = kept.given;
  reported = kept.reported;
  lawful = kept.lawful;
  ordered = kept.ordered;
}
  where
    by : (left : Option (List ℕ)) → IfSome left (λ bytes. input ≡ bytes) → IfSome left (λ bytes. read_of bytes ≡ Ok kept.trace)
    by None same = tt
    by (Some bytes) same = subst (λ (b : List ℕ). read_of b ≡ Ok kept.trace) same kept.read

-- ---- what an input holds

same_at : (bytes : List ℕ) (i d : ℕ) → i < length bytes → get_or bytes i 0 ≡ get_or bytes i d
same_at [] i d inside = absurd (omega (arith, inside))
same_at (b ∷ bytes) zero d inside = refl
same_at (b ∷ bytes) (suc i) d inside = same_at bytes i d (omega (arith, inside))

pub all_bytes : (bytes : List ℕ) → ((i : ℕ) → get_or bytes i 0 < 256) → All (λ b. b < 256) bytes
all_bytes bytes each = λ i d inside. subst (λ (b : ℕ). b < 256) (same_at bytes i d inside) (each i)
