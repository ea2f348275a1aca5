-- What the status of an audit says.
use Rattle.std.proofs.Common.{◌≡◌, ◌≢◌, ◌<◌, ◌≤◌, ◌+◌, ◌^◌, ℕ, zero, suc, List, Result, Ok, Err, IfOk, IfErr, Bool, true, false, cond}
use Rattle.std.proofs.Common.{refl, sym, ap, subst, inl, inr, ◌∙◌, arith}
use Rattle.std.proofs.Math.Pow.{pow_mono}
use Rattle.audit_core.specs.declared.finding.Finding.{Finding}
use Rattle.audit_core.specs.declared.finding.Finding.TheVariants.{Obeys, Breaks, Forged, Collided}
use Rattle.count_set.specs.Sets.{is_among}
use Rattle.trace_audit.specs.Audits.{HasAudited, HasOtherKeys, HasOtherRun, IsAnswer, IsAuditCause, IsExact}
use Rattle.trace_audit.specs.Promises.{IsPromised}
use Rattle.trace_audit.specs.declared.auditing.Audited.{Audited}
use Rattle.trace_audit.specs.declared.expected.ExpectedRun.{ExpectedRun}
use Rattle.trace_audit.specs.declared.fault.AuditFault.{AuditFault}
use Rattle.trace_audit.specs.declared.fault.AuditFault.TheVariants.{BadTrace, OtherKeys, OtherRun, NoMemory}
use Rattle.themis_c.specs.Audits.{IsAudited, IsAuditStatus, IsNoTrace, IsPromisedOf, bits_below, faulty_word, place_of_audit, status_found, status_of_audit}
use Rattle.themis_c.specs.declared.auditing.CFinding.{CFinding}

-- a finding has none of the other statuses
not_refused : (finding : Finding) → (status_found finding ≢ 18) × (status_found finding ≢ 19) × (status_found finding ≢ 23)
not_refused Obeys = ((λ e. omega (arith, e)), (λ e. omega (arith, e)), (λ e. omega (arith, e)))
not_refused (Breaks r e u) = ((λ e. omega (arith, e)), (λ e. omega (arith, e)), (λ e. omega (arith, e)))
not_refused (Forged at) = ((λ e. omega (arith, e)), (λ e. omega (arith, e)), (λ e. omega (arith, e)))
not_refused (Collided at) = ((λ e. omega (arith, e)), (λ e. omega (arith, e)), (λ e. omega (arith, e)))

ok_obeys : (finding : Finding) → status_found finding ≡ 0 → finding ≡ Obeys
ok_obeys Obeys is = refl
ok_obeys (Breaks r e u) is = absurd (omega (arith, is))
ok_obeys (Forged at) is = absurd (omega (arith, is))
ok_obeys (Collided at) is = absurd (omega (arith, is))

module _ (bytes : List ℕ) (run : ExpectedRun) (publics : List (List ℕ)) (old : CFinding) where
  -- what an audit ensures of its answer
  abbrev Found : Result Audited AuditFault → Type 0
  Found answer = IfOk answer (λ audited. HasAudited bytes run publics audited)

  abbrev Promises : Result Audited AuditFault → Type 0
  Promises answer = IfOk answer (λ audited. audited.finding ≡ Obeys → IsPromised bytes run publics audited.faulty)

  abbrev Caused : Result Audited AuditFault → Type 0
  Caused answer = IfErr answer (λ fault. IsAuditCause fault bytes run publics)

  answers : (answer : Result Audited AuditFault) → Found answer → Caused answer
      → IsAuditStatus (status_of_audit answer) bytes run publics old (place_of_audit answer old)
  answers (Ok audited) has cause = inr (inr (inr (inr (record { audited = audited; has = has; status_is = refl; place_is = refl }))))
  answers (Err (BadTrace at)) has cause = inl (refl, record { at = at; read = cause; place_is = refl })
  answers (Err OtherKeys) has cause = inr (inl (refl, cause, refl))
  answers (Err OtherRun) has cause = inr (inr (inl (refl, cause, refl)))
  answers (Err NoMemory) has cause = inr (inr (inr (inl (refl, refl))))

  -- unless memory runs out, the answer is known
  known : (answer : Result Audited AuditFault) (fault : AuditFault) → status_of_audit answer ≢ 2 → IsAnswer answer (Err fault)
      → status_of_audit answer ≡ status_of_audit (Err fault)
  known answer fault some (inl none) = absurd (some (ap status_of_audit none))
  known answer fault some (inr is) = ap status_of_audit is

  bad_trace : (answer : Result Audited AuditFault) → Caused answer → status_of_audit answer ≡ 18 → IsNoTrace bytes (place_of_audit answer old)
  bad_trace (Ok audited) cause is = absurd ((not_refused audited.finding).0 is)
  bad_trace (Err (BadTrace at)) cause is = record { at = at; read = cause; place_is = refl }
  bad_trace (Err OtherKeys) cause is = absurd (omega (arith, is))
  bad_trace (Err OtherRun) cause is = absurd (omega (arith, is))
  bad_trace (Err NoMemory) cause is = absurd (omega (arith, is))

  other_keys : (answer : Result Audited AuditFault) → Caused answer → status_of_audit answer ≡ 19 → HasOtherKeys bytes publics
  other_keys (Ok audited) cause is = absurd ((not_refused audited.finding).1 is)
  other_keys (Err (BadTrace at)) cause is = absurd (omega (arith, is))
  other_keys (Err OtherKeys) cause is = cause
  other_keys (Err OtherRun) cause is = absurd (omega (arith, is))
  other_keys (Err NoMemory) cause is = absurd (omega (arith, is))

  other_run : (answer : Result Audited AuditFault) → Caused answer → status_of_audit answer ≡ 23 → HasOtherRun bytes run publics
  other_run (Ok audited) cause is = absurd ((not_refused audited.finding).2 is)
  other_run (Err (BadTrace at)) cause is = absurd (omega (arith, is))
  other_run (Err OtherKeys) cause is = absurd (omega (arith, is))
  other_run (Err OtherRun) cause is = cause
  other_run (Err NoMemory) cause is = absurd (omega (arith, is))

  of_answer : (answer : Result Audited AuditFault) → Found answer → Caused answer → IsExact answer bytes run publics
      → IsAudited (status_of_audit answer) bytes run publics old (place_of_audit answer old)
  of_answer answer has cause exact = record {
    answer = answers answer has cause;
    bad_trace = λ some. (bad_trace answer cause, λ is. known answer (BadTrace is.at) some (exact.bad_trace is.at is.read));
    other_keys = λ some. (other_keys answer cause, λ is. known answer OtherKeys some (exact.other_keys is));
    other_run = λ some. (other_run answer cause, λ is. known answer OtherRun some (exact.other_run is));
  }

  promise_of : (answer : Result Audited AuditFault) → Promises answer → status_of_audit answer ≡ 0
      → IsPromisedOf bytes run publics (place_of_audit answer old)
  promise_of (Ok audited) promise is = record { faulty = audited.faulty; word = refl; promised = promise (ok_obeys audited.finding is) }
  promise_of (Err (BadTrace at)) promise is = absurd (omega (arith, is))
  promise_of (Err OtherKeys) promise is = absurd (omega (arith, is))
  promise_of (Err OtherRun) promise is = absurd (omega (arith, is))
  promise_of (Err NoMemory) promise is = absurd (omega (arith, is))

  not_given : (answer : Result Audited AuditFault) → (status_of_audit answer ≢ 3) × (status_of_audit answer ≢ 4)
  not_given (Ok audited) = found_given audited.finding
    where
      found_given : (finding : Finding) → (status_found finding ≢ 3) × (status_found finding ≢ 4)
      found_given Obeys = ((λ e. omega (arith, e)), (λ e. omega (arith, e)))
      found_given (Breaks r e u) = ((λ e. omega (arith, e)), (λ e. omega (arith, e)))
      found_given (Forged at) = ((λ e. omega (arith, e)), (λ e. omega (arith, e)))
      found_given (Collided at) = ((λ e. omega (arith, e)), (λ e. omega (arith, e)))
  not_given (Err (BadTrace at)) = ((λ e. omega (arith, e)), (λ e. omega (arith, e)))
  not_given (Err OtherKeys) = ((λ e. omega (arith, e)), (λ e. omega (arith, e)))
  not_given (Err OtherRun) = ((λ e. omega (arith, e)), (λ e. omega (arith, e)))
  not_given (Err NoMemory) = ((λ e. omega (arith, e)), (λ e. omega (arith, e)))

  -- ---- the same of what is reported

  module _ (answer : Result Audited AuditFault) (status : ℕ) (is : status ≡ status_of_audit answer) where
    pub reported : (place : CFinding) → place ≡ place_of_audit answer old → Found answer → Caused answer → IsExact answer bytes run publics
        → IsAudited status bytes run publics old place
    reported place written found caused exact =
        subst (λ (n : ℕ). IsAudited n bytes run publics old place) (sym is)
        (subst (λ (p : CFinding). IsAudited (status_of_audit answer) bytes run publics old p) (sym written) (of_answer answer found caused exact))

    pub reported_promise : (place : CFinding) → place ≡ place_of_audit answer old → Promises answer → status ≡ 0 → IsPromisedOf bytes run publics place
    reported_promise place written promise ok =
        subst (λ (p : CFinding). IsPromisedOf bytes run publics p) (sym written) (promise_of answer promise (sym is ∙ ok))

    pub reported_known : (status ≢ 3) × (status ≢ 4)
    reported_known = subst (λ (n : ℕ). (n ≢ 3) × (n ≢ 4)) (sym is) (not_given answer)

-- ---- words of sets

bits_small : (faulty : List ℕ) (k : ℕ) → bits_below faulty k < 2 ^ k
bits_small faulty zero = omega arith
bits_small faulty (suc k) = with_bit (is_among faulty k) (bits_small faulty k)
  where
    with_bit : (is : Bool) → bits_below faulty k < 2 ^ k → bits_below faulty k + cond is (2 ^ k) 0 < 2 ^ suc k
    with_bit true small = omega (arith, small)
    with_bit false small = omega (arith, small)

-- one more bit fits
pub bit_fits : (faulty : List ℕ) (word r bit : ℕ) → word ≡ bits_below faulty r → bit ≡ 2 ^ r → r < 32 → word + bit < 4294967296
bit_fits faulty word r bit is one below =
    let small : bits_below faulty r < 2 ^ r = bits_small faulty r in
    let most : 2 ^ suc r ≤ 2 ^ 32 = pow_mono {i = suc r} {j = 32} (omega (arith, below)) in
    omega (arith, small, most, is, one)

pub all_bits : (faulty : List ℕ) (word r : ℕ) → word ≡ bits_below faulty r → r ≡ 32 → word ≡ faulty_word faulty
unfolding faulty_word
all_bits faulty word r is end = is ∙ ap (bits_below faulty) end
