-- What an auditor expects of a trace, the result of an audit, and why a trace could not be audited.
use Rattle.std.specs.Prelude.{◌≡◌, ◌≢◌, ◌⊎◌, ℕ, List, Result, Ok, Err, ⊤}
use Rattle.audit_core.specs.Finding.{finding_of}
use Rattle.hss_seal.specs.Any.{any_publics_fit}
use Rattle.trace_form.specs.Form.{read_of}
use Rattle.trace_form.specs.declared.keys.Keys.TheVariants.{Public}
use Rattle.trace_form.specs.declared.trace.Trace.{Trace}
use Rattle.trace_audit.specs.declared.auditing.Audited.{Audited}
use Rattle.trace_audit.specs.declared.expected.ExpectedRun.{ExpectedRun}
use Rattle.trace_audit.specs.declared.fault.AuditFault.{AuditFault}
use Rattle.trace_audit.specs.declared.fault.AuditFault.TheVariants.{BadTrace, OtherKeys, OtherRun, NoMemory}

-- The trace is of a run with this setting, these views and keys of this height.
pub record IsOfRun (run : ExpectedRun) (trace : Trace) : Type 0 where
  pub setting : trace.run.setting ≡ run.setting
  pub views : trace.views ≡ run.views
  pub height : trace.height ≡ run.height

-- The bytes read as a trace with these public keys.
pub record ReadsWith (bytes : List ℕ) (publics : List (List ℕ)) (trace : Trace) : Type 0 where
  pub read : read_of bytes ≡ Ok trace
  pub keys : trace.keys ≡ Public publics

-- The bytes read as a trace of the expected run, with these public keys. It names these replicas as faulty, and this is the
-- finding on its record, by the seals that fit under the keys.
pub record HasAudited (bytes : List ℕ) (run : ExpectedRun) (publics : List (List ℕ)) (audited : Audited) : Type 0 where
  pub trace : Trace
  pub read : ReadsWith bytes publics trace
  pub expected : IsOfRun run trace
  pub faulty : audited.faulty ≡ trace.run.faulty
  pub found : audited.finding ≡ finding_of (any_publics_fit run.height publics) trace.run

-- The bytes read as a trace, with other public keys than these, or with a seed.
pub record HasOtherKeys (bytes : List ℕ) (publics : List (List ℕ)) : Type 0 where
  pub trace : Trace
  pub read : read_of bytes ≡ Ok trace
  pub other : trace.keys ≢ Public publics

-- The bytes read as a trace with these public keys, of a run with another setting, other views or another height.
pub record HasOtherRun (bytes : List ℕ) (run : ExpectedRun) (publics : List (List ℕ)) : Type 0 where
  pub trace : Trace
  pub read : ReadsWith bytes publics trace
  pub other : ¬ IsOfRun run trace

-- Why what is read as a trace is refused. No other fault is returned then, not even `NoMemory`.
abbrev pub IsRefusal : AuditFault → Trace → ExpectedRun → List (List ℕ) → Type 0
IsRefusal (BadTrace at) trace run publics = ⊥
IsRefusal OtherKeys trace run publics = trace.keys ≢ Public publics
IsRefusal OtherRun trace run publics = (trace.keys ≡ Public publics) × (¬ IsOfRun run trace)
IsRefusal NoMemory trace run publics = ⊥

-- what each fault implies; `NoMemory` implies nothing
abbrev pub IsAuditCause : AuditFault → List ℕ → ExpectedRun → List (List ℕ) → Type 0
IsAuditCause (BadTrace at) bytes run publics = read_of bytes ≡ Err at
IsAuditCause OtherKeys bytes run publics = HasOtherKeys bytes publics
IsAuditCause OtherRun bytes run publics = HasOtherRun bytes run publics
IsAuditCause NoMemory bytes run publics = ⊤

-- This is the answer, or memory ran out.
abbrev pub IsAnswer : Result Audited AuditFault → Result Audited AuditFault → Type 0
IsAnswer result answer = (result ≡ Err NoMemory) ⊎ (result ≡ answer)

-- The fault of every trace that is not audited. The causes exclude one another: the keys are compared where the bytes read as
-- a trace, and the run where the keys are these.
pub record IsExact (result : Result Audited AuditFault) (bytes : List ℕ) (run : ExpectedRun) (publics : List (List ℕ)) : Type 0 where
  pub bad_trace : (at : ℕ) → read_of bytes ≡ Err at → IsAnswer result (Err (BadTrace at))
  pub other_keys : HasOtherKeys bytes publics → IsAnswer result (Err OtherKeys)
  pub other_run : HasOtherRun bytes run publics → IsAnswer result (Err OtherRun)
  pub audited : (audited : Audited) → HasAudited bytes run publics audited → IsAnswer result (Ok audited)
