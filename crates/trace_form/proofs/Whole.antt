-- A whole trace is read back.
use Rattle.std.proofs.Common.{◌≡◌, ℕ, suc, ◌<◌, Bool, true, false, cond, List, [], ◌∷◌, ◌++◌, length, map, Result, Ok, Err, refl, sym, ap, subst, ◌∙◌, append_assoc, arith, inl, inr}
use Rattle.std.specs.Prelude.{◌==◌, All, IfOk, if◌then◌else◌}
use Rattle.std.specs.List.{flat_map, AllByRecursion}
use Rattle.std.proofs.lemmas.Bool.{eqb-true, cases_lt}
use Rattle.std.proofs.lemmas.List.{append-nil, nil_from_length, length-append, get_or_past}
use Rattle.wire_view.proofs.Exact.{IsBytes, IsExact, step, known_value, restated, ok_is, as_format}
use Rattle.seq_base.specs.declared.tx.Tx.{Tx}
use Rattle.count_set.specs.Sets.{is_among}
use Rattle.run_record.specs.declared.record.Head.{Head}
use Rattle.run_record.specs.declared.record.Journal.{Journal}
use Rattle.wire_view.specs.Reading.{◌>>=◌, give}
use Rattle.trace_form.specs.declared.account.Account.{Account}
use Rattle.trace_form.specs.declared.contents.Contents.{Contents}
use Rattle.trace_form.specs.declared.opening.Opening.{Opening}
use Rattle.trace_form.specs.declared.fault.TraceFault.{TraceFault}
use Rattle.trace_form.specs.declared.trace.Trace.{Trace}
use Rattle.trace_form.specs.Accounts.{account_at, next_account_at}
use Rattle.trace_form.specs.Contents.{bare, trace_of}
use Rattle.trace_form.specs.Fitting.{FitsAccountOf, FitAccounts, FitsContents, FitsList, FitsOpening, Traces}
use Rattle.trace_form.specs.Form.{contents_at, placed, read_of, ReadsAs}
use Rattle.trace_form.specs.Lists.{list_at}
use Rattle.trace_form.specs.Reading.{whole, each_at}
use Rattle.trace_form.specs.Spelling.{list_spelling, account_spelling, accounts_spelling, opening_spelling, contents_spelling}
use Rattle.trace_form.proofs.Exact.{joined}
use Rattle.trace_form.proofs.Each.{texts, AllFit, each_exact}
use Rattle.trace_form.proofs.Txs.{list_exact}
use Rattle.trace_form.proofs.Parts.{flat_exact, account_exact}
use Rattle.trace_form.proofs.Header.{opening_exact}

-- ---- one account for each replica

module _ (n : ℕ) (faulty : List ℕ) where
  text_of : Bool → Account → List ℕ
  text_of is a = if is then [] else account_spelling a

  next_text : List Account → Account → List ℕ
  next_text before a = text_of (is_among faulty (length before)) a

  NextFits : List Account → Account → Type 0
  NextFits before a = FitsAccountOf n (is_among faulty (length before)) a

  reported_or_not : n < 256 → (is : Bool) → IsExact (text_of is) (FitsAccountOf n is) (if is then give bare else account_at n)
  unfolding text_of
  reported_or_not small true = record {
    takes = λ bytes a rest fits e. let same = ok_is (bare, bytes) (a, rest) e in
        (ap (λ (y : Account × List ℕ). y.1) same, sym (ap (λ (y : Account × List ℕ). y.0) same));
    again = λ a rest h. ap (λ (y : Account). Ok (y, rest)) (sym h);
  }
  reported_or_not small false = account_exact n small

  next_exact : n < 256 → (before : List Account) → IsExact (next_text before) (NextFits before) (next_account_at n faulty before)
  unfolding next_text NextFits next_account_at
  next_exact small before = reported_or_not small (is_among faulty (length before))

  spelled_as : (before accounts : List Account) → texts next_text before accounts ≡ accounts_spelling faulty (length before) accounts
  unfolding next_text text_of
  spelled_as before [] = refl
  spelled_as before (a ∷ accounts) =
      let size : length (before ++ a ∷ []) ≡ suc (length before) = omega (arith, length-append before (a ∷ [])) in
      ap (λ (z : List ℕ). next_text before a ++ z) (spelled_as (before ++ a ∷ []) accounts ∙ ap (λ (k : ℕ). accounts_spelling faulty k accounts) size)

  fit_as : (before accounts : List Account) → AllFit NextFits before accounts → FitAccounts n faulty (length before) accounts
  unfolding NextFits
  fit_as before [] h = tt
  fit_as before (a ∷ accounts) h =
      let size : length (before ++ a ∷ []) ≡ suc (length before) = omega (arith, length-append before (a ∷ [])) in
      (h.0, subst (λ (k : ℕ). FitAccounts n faulty k accounts) size (fit_as (before ++ a ∷ []) accounts h.1))

  as_fit : (before accounts : List Account) → FitAccounts n faulty (length before) accounts → AllFit NextFits before accounts
  unfolding NextFits
  as_fit before [] h = tt
  as_fit before (a ∷ accounts) h =
      let size : length (before ++ a ∷ []) ≡ suc (length before) = omega (arith, length-append before (a ∷ [])) in
      (h.0, as_fit (before ++ a ∷ []) accounts (subst (λ (k : ℕ). FitAccounts n faulty k accounts) (sym size) h.1))

  accounts_exact : n < 256 → IsExact (accounts_spelling faulty 0) (λ xs. (length xs ≡ n) × FitAccounts n faulty 0 xs) (each_at (next_account_at n faulty) n [])
  accounts_exact small = record {
    takes = λ bytes xs rest fits e.
        let t = (each_exact (next_account_at n faulty) next_text NextFits (next_exact small) n).takes bytes xs rest fits e in
        (t.0 ∙ ap (λ (z : List ℕ). z ++ rest) (spelled_as [] xs), (t.1.0, fit_as [] xs t.1.1));
    again = λ xs rest h.
        ap (λ (z : List ℕ). each_at (next_account_at n faulty) n [] (z ++ rest)) (sym (spelled_as [] xs))
        ∙ (each_exact (next_account_at n faulty) next_text NextFits (next_exact small) n).again xs rest (h.0, as_fit [] xs h.1);
  }

-- ---- the whole

after_opening : Opening → Contents → List ℕ
after_opening o c = flat_map list_spelling c.arrivals ++ accounts_spelling o.faulty 0 c.accounts

record FitsAfter (o : Opening) (c : Contents) : Type 0 where
  pub opening : c.opening ≡ o
  pub each_arrival : length c.arrivals ≡ o.setting.n
  pub arrivals : AllByRecursion (FitsList true) c.arrivals
  pub each_account : length c.accounts ≡ o.setting.n
  pub accounts : FitAccounts o.setting.n o.faulty 0 c.accounts

abbrev contents : Opening → List (List Tx) → List Account → Contents
contents opening arrivals accounts = record { opening = opening; arrivals = arrivals; accounts = accounts }

after_exact : (o : Opening) → FitsOpening o
    → IsExact (after_opening o) (FitsAfter o) (each_at (λ before. list_at true) o.setting.n [] >>= λ arrivals.
    each_at (next_account_at o.setting.n o.faulty) o.setting.n [] >>= λ accounts. give (contents o arrivals accounts))
unfolding after_opening step known_value
after_exact o fits =
    let small : o.setting.n < 256 = omega (arith, fits.valid.replicas.few) in
    restated
    (step (λ (c : Contents). c.arrivals) (flat_exact (list_exact true) o.setting.n) (λ arrivals.
    step (λ (c : Contents). c.accounts) (accounts_exact o.setting.n o.faulty small) (λ accounts. known_value (contents o arrivals accounts))
    (λ accounts c h. ap (λ (x : Contents). x.accounts) h))
    (λ arrivals c h. ap (λ (x : Contents). x.arrivals) h.1))
    (after_opening o) (FitsAfter o)
    (λ c. ap (λ (z : List ℕ). flat_map list_spelling c.arrivals ++ z) (append-nil (accounts_spelling o.faulty 0 c.accounts)))
    (λ c h. record { opening = ap (λ (x : Contents). x.opening) h.1.1; each_arrival = h.0.0; arrivals = h.0.1; each_account = h.1.0.0; accounts = h.1.0.1 })
    (λ c h. ((h.each_arrival, h.arrivals), ((h.each_account, h.accounts), ap (λ (x : Opening). contents x c.arrivals c.accounts) h.opening)))

pub contents_exact : IsExact contents_spelling FitsContents contents_at
unfolding contents_at contents_spelling after_opening as_format
contents_exact = restated
    (as_format (joined (λ (c : Contents). c.opening) opening_exact after_opening FitsAfter after_exact (λ o c h. h.opening)))
    contents_spelling FitsContents
    (λ c. sym (append_assoc (opening_spelling c.opening) (flat_map list_spelling c.arrivals) (accounts_spelling c.opening.faulty 0 c.accounts)))
    (λ c h. record { opening = h.0; each_arrival = h.1.each_arrival; arrivals = h.1.arrivals; each_account = h.1.each_account; accounts = h.1.accounts })
    (λ c h. (h.opening, record { opening = refl; each_arrival = h.each_arrival; arrivals = h.arrivals; each_account = h.each_account; accounts = h.accounts }))

-- ---- reading all of the bytes

abbrev traced : Trace → Result Trace ℕ
traced trace = Ok trace

same_trace : (t u : Trace) → traced t ≡ traced u → t ≡ u
same_trace t u e = cc

pub read_again : (trace : Trace) (bytes : List ℕ) → Traces trace bytes → read_of bytes ≡ Ok trace
unfolding read_of
read_again trace bytes t =
    ap (λ (z : List ℕ). placed (length bytes) (whole (contents_at z))) (t.spelled ∙ sym (append-nil (contents_spelling t.contents)))
    ∙ ap (λ (r : Result (Contents × List ℕ) ℕ). placed (length bytes) (whole r)) (contents_exact.again t.contents [] t.fits)
    ∙ ap traced (sym t.is)

ended : (b : Bool) (left size : ℕ) (c : Contents) (trace : Trace) → placed size (cond b (Ok c) (Err left)) ≡ Ok trace → (b ≡ true) × (trace_of c ≡ trace)
ended true left size c trace e = (refl, same_trace (trace_of c) trace e)
ended false left size c trace e = absurd cc

found_so : (bytes : List ℕ) (trace : Trace) → IsBytes bytes → (r : Result (Contents × List ℕ) ℕ) → contents_at bytes ≡ r
    → placed (length bytes) (whole r) ≡ Ok trace → Traces trace bytes
found_so bytes trace fits (Err left) is e = absurd cc
found_so bytes trace fits (Ok x) is e =
    let last = ended (length x.1 == 0) (length x.1) (length bytes) x.0 trace e in
    let nothing : x.1 ≡ [] = nil_from_length x.1 (eqb-true (length x.1) 0 last.0) in
    let t = contents_exact.takes bytes x.0 x.1 fits is in
    record {
      contents = x.0;
      fits = t.1;
      is = sym last.1;
      spelled = t.0 ∙ ap (λ (y : List ℕ). contents_spelling x.0 ++ y) nothing ∙ append-nil (contents_spelling x.0);
    }

-- What is read is spelled so.
pub found : (bytes : List ℕ) (trace : Trace) → IsBytes bytes → read_of bytes ≡ Ok trace → Traces trace bytes
unfolding read_of
found bytes trace fits e = found_so bytes trace fits (contents_at bytes) refl e

pub is_found : (bytes : List ℕ) (r : Result Trace TraceFault) → IsBytes bytes → ReadsAs r (read_of bytes) → IfOk r (λ trace. Traces trace bytes)
is_found bytes (Ok trace) fits e = found bytes trace fits e
is_found bytes (Err fault) fits e = tt

pub is_only : (bytes : List ℕ) (trace : Trace) (r : Result Trace TraceFault) → Traces trace bytes → ReadsAs r (read_of bytes) → ReadsAs r (Ok trace)
is_only bytes trace r t e = subst (ReadsAs r) (read_again trace bytes t) e

pub one_trace : (t u : Trace) (bytes : List ℕ) → Traces t bytes → Traces u bytes → t ≡ u
one_trace t u bytes first second = same_trace t u (sym (read_again t bytes first) ∙ read_again u bytes second)

-- what a slice of bytes holds
pub of_slice : (bytes : List ℕ) → All (λ b. b < 256) bytes → IsBytes bytes
of_slice bytes each = λ i. elim (cases_lt i (length bytes)) [ inl lt ↦ each i 0 lt | inr le ↦ rw (get_or_past bytes i 0 le) (omega arith) ]

-- ---- a trace tells one thing

abbrev zipped : List Journal → List Head → List (List (List Tx)) → List Account
zipped (j ∷ js) (h ∷ hs) (b ∷ bs) = record { journal = j; head = h; batches = b } ∷ zipped js hs bs
zipped js hs bs = []

zipped_back : (xs : List Account) → zipped (map (λ (x : Account). x.journal) xs) (map (λ (x : Account). x.head) xs) (map (λ (x : Account). x.batches) xs) ≡ xs
zipped_back [] = refl
zipped_back (x ∷ xs) = ap (λ (zs : List Account). x ∷ zs) (zipped_back xs)

abbrev contents_in : Trace → Contents
contents_in t = record {
  opening =
      record {
        setting = t.run.setting;
        span = record { views = t.views; keys = t.keys; height = t.height };
        turns = t.run.turns;
        ticks = t.run.ticks;
        faulty = t.run.faulty;
      };
  arrivals = t.run.arrivals;
  accounts = zipped t.run.journals t.run.heads t.run.batches;
}

back : (c : Contents) → contents_in (trace_of c) ≡ c
back c = ap (λ (xs : List Account). contents c.opening c.arrivals xs) (zipped_back c.accounts)

same_contents : (c d : Contents) → trace_of c ≡ trace_of d → c ≡ d
same_contents c d e = sym (back c) ∙ ap contents_in e ∙ back d

-- Where bytes spell the trace of some contents, they are the spelling of these.
pub spelled_once : (c : Contents) (bytes : List ℕ) → Traces (trace_of c) bytes → contents_spelling c ≡ bytes
spelled_once c bytes t = ap contents_spelling (same_contents c t.contents t.is) ∙ sym t.spelled
