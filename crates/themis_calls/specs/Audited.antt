-- What the command `audit` answers to the trace in an input.
use Rattle.std.specs.Prelude.{◌≡◌, ◌⊎◌, ◌<◌, ◌≤◌, ℕ, List, length, Option, Some, None, IfSome, Ok, Err}
use Rattle.audit_core.specs.Finding.{finding_of}
use Rattle.audit_core.specs.Unlawful.{first_unlawful_of}
use Rattle.audit_core.specs.declared.finding.Finding.{Finding}
use Rattle.audit_core.specs.declared.finding.Finding.TheVariants.{Obeys, Breaks, Forged as ShowsForged, Collided as ShowsCollided}
use Rattle.node_core.specs.Rows.{Check}
use Rattle.run_record.specs.declared.record.RunRecord.{RunRecord}
use Rattle.headline_laws.specs.Headline.{IsOrdered}
use Rattle.headline_laws.specs.Premises.{IsLawfulRun}
use Rattle.report_text.specs.AuditPrint.{audit_text_of}
use Rattle.seal_kit.specs.Digest.{keys_digest}
use Rattle.seal_kit.specs.declared.height.Height.{Height}
use Rattle.trace_form.specs.Fitting.{Traces}
use Rattle.trace_form.specs.Form.{read_of}
use Rattle.trace_form.specs.declared.keys.Keys.{Keys}
use Rattle.trace_form.specs.declared.keys.Keys.TheVariants.{Seed, Public}
use Rattle.trace_form.specs.declared.trace.Trace.{Trace}
use Rattle.themis_calls.specs.Limits.{most_trace}
use Rattle.themis_calls.specs.declared.outcome.Status.{Status}
use Rattle.themis_calls.specs.declared.outcome.Status.TheVariants.{Done, ReadFault, WriteFault, BadWords, BadPlan, TooLong, Open, Stalled, Forged, Collided, NoMemory, BadTrace, Unlawful}
use Rattle.themis_calls.specs.Moved.{Took, TookSome}
use Rattle.themis_calls.specs.Replayed.{Seals}

-- the seals that fit by the seed of all keys, or by public keys
abbrev pub fits_by : Seals → Keys → Height → ℕ → Check
fits_by seals (Seed seed) height n = seals.fits seed height n
fits_by seals (Public keys) height n = seals.keys_fit height keys

-- the seals that fit in the run of a trace
abbrev pub fits_in : Seals → Trace → Check
fits_in seals trace = fits_by seals trace.keys trace.height trace.run.setting.n

-- the digest of public keys; a seed has none
abbrev pub digest_in : Keys → Option (List ℕ)
digest_in (Seed seed) = None
digest_in (Public keys) = Some (keys_digest keys)

-- what is written of a trace with this finding
abbrev pub text_of_audit : Trace → Finding → List ℕ
text_of_audit trace finding = audit_text_of trace.run finding (digest_in trace.keys)

-- how a call with this finding ends, once its text is written
abbrev pub status_found : Finding → Status
status_found Obeys = Done
status_found (Breaks replica entry rule) = Unlawful replica entry rule
status_found (ShowsForged at) = Forged at
status_found (ShowsCollided at) = Collided at

-- what the sink received of the text: all of it, or a prefix
abbrev pub ReportedFinding : Finding → List ℕ → Option (List ℕ) → Option (List ℕ) → Status → Type 0
ReportedFinding finding text old new status =
    ((status ≡ status_found finding) × Took text old new) ⊎ ((status ≡ WriteFault) × TookSome text old new)

-- the same for the record in a trace, with its text
abbrev pub IsReportedOfTrace : Seals → Trace → Option (List ℕ) → Option (List ℕ) → Status → Type 0
IsReportedOfTrace seals trace old new status =
    let finding : Finding = finding_of (fits_in seals trace) trace.run in ReportedFinding finding (text_of_audit trace finding) old new status

-- ---- the answer

-- The bytes read as this trace, its record is given, this is the finding, and this is the text.
pub record IsAudited (seals : Seals) (bytes : List ℕ) (given : Option RunRecord) (finding : Finding) (text : List ℕ) : Type 0 where
  pub trace : Trace
  pub read : read_of bytes ≡ Ok trace
  pub is_given : given ≡ Some trace.run
  pub found : finding ≡ finding_of (fits_in seals trace) trace.run
  pub printed : text ≡ text_of_audit trace finding

-- the whole text is written, and the status reports the finding
abbrev pub IsFound : Seals → List ℕ → Option RunRecord → Option (List ℕ) → Option (List ℕ) → Status → Type 0
IsFound seals bytes given old new status =
    (finding : Finding) × (text : List ℕ) × IsAudited seals bytes given finding text × (status ≡ status_found finding) × Took text old new

-- The record that is given, and the sink before and after: the whole text is written once, or a prefix of it if the
-- sink failed, and nothing otherwise.
abbrev pub AnswersAudit : Seals → List ℕ → Option RunRecord → Option (List ℕ) → Option (List ℕ) → Status → Type 0
AnswersAudit seals bytes given old new Done = IsFound seals bytes given old new Done
AnswersAudit seals bytes given old new ReadFault = new ≡ old
AnswersAudit seals bytes given old new WriteFault = (finding : Finding) × (text : List ℕ) × IsAudited seals bytes given finding text × TookSome text old new
AnswersAudit seals bytes given old new BadWords = ⊥
AnswersAudit seals bytes given old new (BadPlan fault) = ⊥
AnswersAudit seals bytes given old new TooLong = (most_trace < length bytes) × (new ≡ old)
AnswersAudit seals bytes given old new (Open u v) = ⊥
AnswersAudit seals bytes given old new (Stalled turns ticks) = ⊥
AnswersAudit seals bytes given old new (Forged at) = IsFound seals bytes given old new (Forged at)
AnswersAudit seals bytes given old new (Collided at) = IsFound seals bytes given old new (Collided at)
AnswersAudit seals bytes given old new NoMemory = new ≡ old
AnswersAudit seals bytes given old new (BadTrace at) = (read_of bytes ≡ Err at) × (new ≡ old)
AnswersAudit seals bytes given old new (Unlawful replica entry rule) = IsFound seals bytes given old new (Unlawful replica entry rule)

-- ---- the expected status

-- The bytes are a trace, and an audit of it ends with this finding.
abbrev pub IsFoundSo : Seals → List ℕ → Status → Type 0
IsFoundSo seals bytes status = (trace : Trace) × (read_of bytes ≡ Ok trace) × (status ≡ status_found (finding_of (fits_in seals trace) trace.run))

-- The expected status of an input if nothing fails: it is too long, or no trace, or a trace with this finding.
abbrev pub IsAuditDue : Seals → List ℕ → Status → Type 0
IsAuditDue seals bytes status =
    ((status ≡ TooLong) × (most_trace < length bytes))
    ⊎ ((length bytes ≤ most_trace)
    × (((at : ℕ) × (status ≡ BadTrace at) × (read_of bytes ≡ Err at)) ⊎ IsFoundSo seals bytes status))

-- The answer to these bytes, by whether the counts of faults of the source and the sink rose.
pub record AuditsTrace (seals : Seals) (SourceRose SinkRose : Type 0) (bytes : List ℕ) (given : Option RunRecord)
    (old new : Option (List ℕ)) (status : Status) : Type 0 where
  -- which fault is returned, or which finding on which record, and which text is written
  pub answers : AnswersAudit seals bytes given old new status
  -- if no count rises, exactly that, unless memory runs out
  pub due : (SourceRose → ⊥) → (SinkRose → ⊥) → (status ≡ NoMemory) ⊎ IsAuditDue seals bytes status

-- ---- what holds of the record

-- What holds of a record that is given with this status. The source had these bytes left and the sink received this, as
-- far as they report bytes.
pub record KeepsAudit (seals : Seals) (left old new : Option (List ℕ)) (status : Status) (run : RunRecord) : Type 0 where
  pub trace : Trace
  -- the trace is spelled by some bytes, and those of the source read as it
  pub spelled : (bytes : List ℕ) × Traces trace bytes
  pub read : IfSome left (λ bytes. read_of bytes ≡ Ok trace)
  -- the record is that of the trace
  pub given : run ≡ trace.run
  -- the status is that of the finding, and its text is written; or the sink failed, and has a prefix of the text
  pub reported : IsReportedOfTrace seals trace old new status
  -- if no rule is broken, each honest replica conforms to the protocol, and its batches are those of its journal's
  -- chain
  pub lawful : first_unlawful_of (fits_in seals trace) run ≡ None → IsLawfulRun (fits_in seals trace) run
  -- if the audit says yes, the headline holds
  pub ordered : status ≡ Done → IsOrdered run
