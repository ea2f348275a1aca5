-- The record that a trace tells is bare: what is told of it is the trace itself.
use Rattle.std.proofs.Common.{◌≡◌, ℕ, suc, ◌+◌, Bool, true, false, cond, List, [], ◌∷◌, length, map, get_or, refl, sym, ap, subst, ◌∙◌, arith}
use Rattle.std.specs.List.{range_with_len, AllByRecursion}
use Rattle.std.proofs.Math.ListN.{get_or-map}
use Rattle.seq_base.specs.declared.tx.Tx.{Tx}
use Rattle.count_set.specs.Sets.{is_among}
use Rattle.node_core.specs.declared.entry.Entry.{Entry}
use Rattle.run_record.specs.declared.record.Head.{Head}
use Rattle.run_record.specs.declared.record.Journal.{Journal}
use Rattle.trace_form.specs.declared.account.Account.{Account}
use Rattle.trace_form.specs.declared.contents.Contents.{Contents}
use Rattle.trace_form.specs.declared.trace.Trace.{Trace}
use Rattle.trace_form.specs.Contents.{bare, trace_of, without_sends, sendless, held_of, account_of, contents_of, span_of, bared}
use Rattle.trace_form.specs.Fitting.{FitsEntry, FitsAccountOf, FitAccounts, FitsContents, Traces}

abbrev account : Journal → Head → List (List Tx) → Account
account journal head batches = record { journal = journal; head = head; batches = batches }

held_at : (c : Contents) (k : ℕ) → held_of (trace_of c).run k ≡ get_or c.accounts k bare
held_at c k =
    let a = get_or c.accounts k bare in
    let run = (trace_of c).run in
    ap (λ (j : Journal). account j (get_or run.heads k bare.head) (get_or run.batches k bare.batches))
    (get_or-map (λ (x : Account). x.journal) c.accounts k bare)
    ∙ ap (λ (h : Head). account a.journal h (get_or run.batches k bare.batches)) (get_or-map (λ (x : Account). x.head) c.accounts k bare)
    ∙ ap (λ (b : List (List Tx)). account a.journal a.head b) (get_or-map (λ (x : Account). x.batches) c.accounts k bare)

no_sends : (n : ℕ) (es : List Entry) → AllByRecursion (FitsEntry n) es → map without_sends es ≡ es
no_sends n [] h = refl
no_sends n (e ∷ es) h =
    let first : without_sends e ≡ e =
    ap (λ (sends : List _).
    record { event = e.event; turned = record { reason = e.turned.reason; kept = e.turned.kept; sealed = e.turned.sealed; sends = sends } })
    (sym h.0.bare) in
    ap (λ (z : Entry). z ∷ map without_sends es) first ∙ ap (λ (zs : List Entry). e ∷ zs) (no_sends n es h.1)

reported_is : (n : ℕ) (faulty : Bool) (a : Account) → FitsAccountOf n faulty a → cond faulty bare (sendless a) ≡ a
reported_is n true a h = sym h
reported_is n false a h = ap (λ (es : List Entry). account (record { entries = es }) a.head a.batches) (no_sends n a.journal.entries h.entries)

-- from a replica on
all_reported : (n : ℕ) (faulty : List ℕ) (reported : ℕ → Account) (start : ℕ) (xs : List Account)
    → ((k : ℕ) → reported (start + k) ≡ cond (is_among faulty (start + k)) bare (sendless (get_or xs k bare)))
    → FitAccounts n faulty start xs → map reported (range_with_len start (length xs)) ≡ xs
all_reported n faulty reported start [] at h = refl
all_reported n faulty reported start (x ∷ xs) at h =
    let here : start + 0 ≡ start = omega arith in
    let next : suc start ≡ start + 1 = omega arith in
    let first : reported start ≡ x = subst (λ (s : ℕ). reported s ≡ cond (is_among faulty s) bare (sendless x)) here (at 0)
    ∙ reported_is n (is_among faulty start) x h.0 in
    let others : (k : ℕ) → reported (start + 1 + k) ≡ cond (is_among faulty (start + 1 + k)) bare (sendless (get_or xs k bare)) =
    λ k. let same : start + suc k ≡ start + 1 + k = omega arith in
    subst (λ (s : ℕ). reported s ≡ cond (is_among faulty s) bare (sendless (get_or xs k bare))) same (at (suc k)) in
    ap (λ (z : Account). z ∷ map reported (range_with_len (start + 1) (length xs))) first
    ∙ ap (λ (zs : List Account). x ∷ zs) (all_reported n faulty reported (start + 1) xs others (subst (λ (s : ℕ). FitAccounts n faulty s xs) next h.1))

contents_back : (c : Contents) → FitsContents c → contents_of (trace_of c).run c.opening.span ≡ c
contents_back c fits =
    let run = (trace_of c).run in
    let faulty = c.opening.faulty in
    let n = c.opening.setting.n in
    let at : (k : ℕ) → account_of run (0 + k) ≡ cond (is_among faulty (0 + k)) bare (sendless (get_or c.accounts k bare)) =
    λ k. let same : 0 + k ≡ k = omega arith in
    ap (λ (a : Account). cond (is_among faulty (0 + k)) bare (sendless a))
    (held_at c (0 + k) ∙ ap (λ (j : ℕ). get_or c.accounts j bare) same) in
    ap (λ (xs : List Account). record { opening = c.opening; arrivals = c.arrivals; accounts = xs })
    (ap (λ (m : ℕ). map (account_of run) (range_with_len 0 m)) (sym fits.each_account) ∙ all_reported n faulty (account_of run) 0 c.accounts at fits.accounts)

pub is_bare : (trace : Trace) (bytes : List ℕ) → Traces trace bytes → bared trace.run (span_of trace.views trace.keys trace.height) ≡ trace
is_bare trace bytes t =
    ap (λ (u : Trace). bared u.run (span_of u.views u.keys u.height)) t.is ∙ ap trace_of (contents_back t.contents t.fits) ∙ sym t.is
