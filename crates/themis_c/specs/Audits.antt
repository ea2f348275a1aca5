-- What an audit answers to C.
use Rattle.std.specs.Prelude.{◌≡◌, ◌≢◌, ◌⊎◌, ◌↔◌, ℕ, zero, suc, ◌+◌, ◌^◌, List, Option, Some, None, Result, Ok, Err, if◌then◌else◌}
use Rattle.audit_core.specs.declared.finding.Finding.{Finding}
use Rattle.audit_core.specs.declared.finding.Finding.TheVariants.{Obeys, Breaks, Forged, Collided}
use Rattle.count_set.specs.Sets.{is_among}
use Rattle.run_record.specs.declared.verdict.CollidedAt.{CollidedAt}
use Rattle.seal_kit.specs.declared.height.Height.{Height}
use Rattle.seq_base.specs.Setting.{Parameters, parameters}
use Rattle.trace_audit.specs.Audits.{HasAudited, HasOtherKeys, HasOtherRun}
use Rattle.trace_audit.specs.Promises.{IsPromised}
use Rattle.trace_audit.specs.declared.auditing.Audited.{Audited}
use Rattle.trace_audit.specs.declared.expected.ExpectedRun.{ExpectedRun}
use Rattle.trace_audit.specs.declared.fault.AuditFault.{AuditFault}
use Rattle.trace_audit.specs.declared.fault.AuditFault.TheVariants.{BadTrace, OtherKeys, OtherRun, NoMemory}
use Rattle.trace_form.specs.Form.{read_of}
use Rattle.themis_c.specs.declared.CRun.{CRun}
use Rattle.themis_c.specs.declared.TheConstants.{OK, NO_MEMORY}
use Rattle.themis_c.specs.declared.auditing.CFinding.{CFinding}
use Rattle.themis_c.specs.declared.auditing.TheConstants.{BAD_TRACE, OTHER_KEYS, UNLAWFUL, FORGED, COLLIDED, OTHER_RUN}

-- ---- what is expected

abbrev pub setting_of : CRun → Parameters
setting_of run = parameters run.n run.f run.p run.q

-- the run, with the height that its number names
abbrev pub run_of : CRun → Height → ExpectedRun
run_of run height = record { setting = setting_of run; views = run.views; height = height }

-- ---- statuses

-- the status that reports a finding
abbrev pub status_found : Finding → ℕ
status_found Obeys = OK
status_found (Breaks replica entry rule) = UNLAWFUL
status_found (Forged at) = FORGED
status_found (Collided at) = COLLIDED

abbrev pub status_of_audit : Result Audited AuditFault → ℕ
status_of_audit (Ok audited) = status_found audited.finding
status_of_audit (Err (BadTrace at)) = BAD_TRACE
status_of_audit (Err OtherKeys) = OTHER_KEYS
status_of_audit (Err OtherRun) = OTHER_RUN
status_of_audit (Err NoMemory) = NO_MEMORY

-- ---- places

-- a byte of the trace
abbrev pub at_byte : ℕ → CFinding
at_byte at = record {
  at = at;
  replica = 0;
  entry = 0;
  rule = 0;
  part = 0;
  signer = 0;
  has_second = 0;
  second_replica = 0;
  second_entry = 0;
  faulty = 0;
}

-- one block, and the other, if it was received
abbrev pub two_places : ℕ × ℕ → Option (ℕ × ℕ) → CFinding
two_places first None = record {
  at = 0;
  replica = first.0;
  entry = first.1;
  rule = 0;
  part = 0;
  signer = 0;
  has_second = 0;
  second_replica = 0;
  second_entry = 0;
  faulty = 0;
}
two_places first (Some second) = record {
  at = 0;
  replica = first.0;
  entry = first.1;
  rule = 0;
  part = 0;
  signer = 0;
  has_second = 1;
  second_replica = second.0;
  second_entry = second.1;
  faulty = 0;
}

abbrev pub collided_place : CollidedAt → CFinding
collided_place at = two_places at.first at.second

-- the place of a finding
abbrev pub c_finding : Finding → CFinding
c_finding Obeys = at_byte 0
c_finding (Breaks replica entry rule) = record {
  at = 0;
  replica = replica;
  entry = entry;
  rule = rule;
  part = 0;
  signer = 0;
  has_second = 0;
  second_replica = 0;
  second_entry = 0;
  faulty = 0;
}
c_finding (Forged at) = record {
  at = 0;
  replica = at.receiver;
  entry = at.entry;
  rule = 0;
  part = at.part;
  signer = at.signer;
  has_second = 0;
  second_replica = 0;
  second_entry = 0;
  faulty = 0;
}
c_finding (Collided at) = collided_place at

-- the word whose bit r, for r below k, says whether replica r is one of them
abbrev pub bits_below : List ℕ → ℕ → ℕ
bits_below faulty zero = 0
bits_below faulty (suc k) = bits_below faulty k + (if is_among faulty k then 2 ^ k else 0)

unfoldable pub faulty_word : List ℕ → ℕ
faulty_word faulty = bits_below faulty 32

-- the place of a finding, with the faulty replicas
abbrev pub c_audited : Audited → CFinding
c_audited audited = record (c_finding audited.finding) { faulty = faulty_word audited.faulty }

-- what is written as the place
abbrev pub place_of_audit : Result Audited AuditFault → CFinding → CFinding
place_of_audit (Ok audited) old = c_audited audited
place_of_audit (Err (BadTrace at)) old = at_byte at
place_of_audit (Err OtherKeys) old = old
place_of_audit (Err OtherRun) old = old
place_of_audit (Err NoMemory) old = old

-- ---- what a status says

-- A status and a place report the finding of an audit by these public keys on a trace of this run.
pub record Reports (bytes : List ℕ) (run : ExpectedRun) (publics : List (List ℕ)) (status : ℕ) (place : CFinding) : Type 0 where
  pub audited : Audited
  pub has : HasAudited bytes run publics audited
  pub status_is : status ≡ status_found audited.finding
  pub place_is : place ≡ c_audited audited

-- The headline holds of the run, in which the replicas that the place names are faulty.
pub record IsPromisedOf (bytes : List ℕ) (run : ExpectedRun) (publics : List (List ℕ)) (place : CFinding) : Type 0 where
  pub faulty : List ℕ
  pub word : place.faulty ≡ faulty_word faulty
  pub promised : IsPromised bytes run publics faulty

-- The bytes are no trace, and the place is that of the first faulty field.
pub record IsNoTrace (bytes : List ℕ) (place : CFinding) : Type 0 where
  pub at : ℕ
  pub read : read_of bytes ≡ Err at
  pub place_is : place ≡ at_byte at

-- What each status says of a trace, and which place it leaves: the bytes are no trace, or one of other keys, or one of another
-- run, or memory ran out, or an audit reports its finding. No other status is returned.
abbrev pub IsAuditStatus : ℕ → List ℕ → ExpectedRun → List (List ℕ) → CFinding → CFinding → Type 0
IsAuditStatus status bytes run publics old new =
    ((status ≡ BAD_TRACE) × IsNoTrace bytes new)
    ⊎ ((status ≡ OTHER_KEYS) × HasOtherKeys bytes publics × (new ≡ old))
    ⊎ ((status ≡ OTHER_RUN) × HasOtherRun bytes run publics × (new ≡ old))
    ⊎ ((status ≡ NO_MEMORY) × (new ≡ old))
    ⊎ Reports bytes run publics status new

-- The causes exclude one another. So, unless memory runs out, each refusal has its status.
pub record IsAudited (status : ℕ) (bytes : List ℕ) (run : ExpectedRun) (publics : List (List ℕ)) (old new : CFinding) : Type 0 where
  pub answer : IsAuditStatus status bytes run publics old new
  pub bad_trace : status ≢ NO_MEMORY → (status ≡ BAD_TRACE) ↔ IsNoTrace bytes new
  pub other_keys : status ≢ NO_MEMORY → (status ≡ OTHER_KEYS) ↔ HasOtherKeys bytes publics
  pub other_run : status ≢ NO_MEMORY → (status ≡ OTHER_RUN) ↔ HasOtherRun bytes run publics
