-- The answer of an audit is exact: its causes exclude one another.
use Rattle.std.proofs.Common.{◌≡◌, ◌<◌, ℕ, List, get_or, All, Result, Ok, Err, IfOk, IfErr, refl, sym, ap, subst, inl, inr, ◌∙◌}
use Rattle.std.proofs.lemmas.List.{get_or_default}
use Rattle.audit_core.specs.Finding.{finding_of}
use Rattle.hss_seal.specs.Any.{any_publics_fit}
use Rattle.audit_core.specs.declared.finding.Finding.{Finding}
use Rattle.audit_core.specs.declared.finding.Finding.TheVariants.{Obeys}
use Rattle.trace_form.specs.Form.{read_of}
use Rattle.trace_form.specs.declared.keys.Keys.TheVariants.{Public}
use Rattle.trace_form.specs.declared.trace.Trace.{Trace}
use Rattle.trace_audit.specs.Audits.{HasAudited, HasOtherKeys, HasOtherRun, IsAuditCause, IsExact, IsOfRun, IsRefusal}
use Rattle.trace_audit.specs.Promises.{IsPromised}
use Rattle.trace_audit.specs.declared.auditing.Audited.{Audited}
use Rattle.trace_audit.specs.declared.expected.ExpectedRun.{ExpectedRun}
use Rattle.trace_audit.specs.declared.fault.AuditFault.{AuditFault}
use Rattle.trace_audit.specs.declared.fault.AuditFault.TheVariants.{BadTrace, OtherKeys, OtherRun, NoMemory}

-- bytes read as one trace
one_trace : (bytes : List ℕ) (one other : Trace) → read_of bytes ≡ Ok one → read_of bytes ≡ Ok other → one ≡ other
one_trace bytes one other first second = let same : Ok one ≡ Ok other = sym first ∙ second in cc same

not_both : (bytes : List ℕ) (at : ℕ) (trace : Trace) → read_of bytes ≡ Err at → read_of bytes ≡ Ok trace → ⊥
not_both bytes at trace bad read = let same : Err at ≡ Ok trace = sym bad ∙ read in cc same

one_place : (bytes : List ℕ) (one other : ℕ) → read_of bytes ≡ Err one → read_of bytes ≡ Err other → one ≡ other
one_place bytes one other first second = let same : Err one ≡ Err other = sym first ∙ second in cc same

abbrev audited_as : Finding → List ℕ → Audited
audited_as finding faulty = record { finding = finding; faulty = faulty }

module _ (bytes : List ℕ) (run : ExpectedRun) (publics : List (List ℕ)) where
  pub refused : (trace : Trace) (fault : AuditFault) → read_of bytes ≡ Ok trace → IsRefusal fault trace run publics → IsAuditCause fault bytes run publics
  refused trace (BadTrace at) read is = absurd is
  refused trace OtherKeys read is = record { trace = trace; read = read; other = is }
  refused trace OtherRun read is = record { trace = trace; read = record { read = read; keys = is.0 }; other = is.1 }
  refused trace NoMemory read is = absurd is

  -- other keys than those that it has
  keys_exclude : (trace : Trace) → read_of bytes ≡ Ok trace → trace.keys ≡ Public publics → HasOtherKeys bytes publics → ⊥
  keys_exclude trace read keys other = other.other (ap (λ (t : Trace). t.keys) (one_trace bytes other.trace trace other.read read) ∙ keys)

  -- another run than the one that it is of
  run_excludes : (trace : Trace) → read_of bytes ≡ Ok trace → IsOfRun run trace → HasOtherRun bytes run publics → ⊥
  run_excludes trace read is other = other.other (subst (IsOfRun run) (one_trace bytes trace other.trace read other.read.read) is)

  one_audit : (one other : Audited) → HasAudited bytes run publics one → HasAudited bytes run publics other → one ≡ other
  one_audit one other first second =
      let same = one_trace bytes first.trace second.trace first.read.read second.read.read in
      let found = first.found ∙ ap (λ (t : Trace). finding_of (any_publics_fit run.height publics) t.run) same ∙ sym second.found in
      let faulty = first.faulty ∙ ap (λ (t : Trace). t.run.faulty) same ∙ sym second.faulty in
      ap (λ (f : Finding). audited_as f one.faulty) found ∙ ap (λ (s : List ℕ). audited_as other.finding s) faulty

  pub exact : (result : Result Audited AuditFault) → IfOk result (λ audited. HasAudited bytes run publics audited)
      → IfErr result (λ fault. IsAuditCause fault bytes run publics) → IsExact result bytes run publics
  exact (Ok audited) has cause = record {
    bad_trace = λ at bad. absurd (not_both bytes at has.trace bad has.read.read);
    other_keys = λ other. absurd (keys_exclude has.trace has.read.read has.read.keys other);
    other_run = λ other. absurd (run_excludes has.trace has.read.read has.expected other);
    audited = λ other is. inr (ap Ok (one_audit audited other has is));
  }
  exact (Err (BadTrace at)) has cause = record {
    bad_trace = λ other bad. inr (ap (λ (n : ℕ). Err (BadTrace n)) (one_place bytes at other cause bad));
    other_keys = λ other. absurd (not_both bytes at other.trace cause other.read);
    other_run = λ other. absurd (not_both bytes at other.trace cause other.read.read);
    audited = λ other is. absurd (not_both bytes at is.trace cause is.read.read);
  }
  exact (Err OtherKeys) has cause = record {
    bad_trace = λ at bad. absurd (not_both bytes at cause.trace bad cause.read);
    other_keys = λ other. inr refl;
    other_run = λ other. absurd (keys_exclude other.trace other.read.read other.read.keys cause);
    audited = λ other is. absurd (keys_exclude is.trace is.read.read is.read.keys cause);
  }
  exact (Err OtherRun) has cause = record {
    bad_trace = λ at bad. absurd (not_both bytes at cause.trace bad cause.read.read);
    other_keys = λ other. absurd (keys_exclude cause.trace cause.read.read cause.read.keys other);
    other_run = λ other. inr refl;
    audited = λ other is. absurd (run_excludes is.trace is.read.read is.expected cause);
  }
  exact (Err NoMemory) has cause = record {
    bad_trace = λ at bad. inl refl;
    other_keys = λ other. inl refl;
    other_run = λ other. inl refl;
    audited = λ other is. inl refl;
  }

  abbrev IsKept : Audited → Type 0
  IsKept audited = audited.finding ≡ Obeys → IsPromised bytes run publics audited.faulty

  pub promise : ((audited : Audited) → HasAudited bytes run publics audited → IsKept audited) → (result : Result Audited AuditFault)
      → IfOk result (λ audited. HasAudited bytes run publics audited) → IfOk result IsKept
  promise each (Ok audited) has = each audited has
  promise each (Err fault) has = tt

-- ---- what a slice of bytes holds

pub all_bytes : (bytes : List ℕ) → ((i : ℕ) → get_or bytes i 0 < 256) → All (λ b. b < 256) bytes
all_bytes bytes each = λ i d inside. subst (λ (b : ℕ). b < 256) (get_or_default bytes i 0 d inside) (each i)
