-- What a trace records as delivered is made of the trace's own bytes, so what it reads as can be written.
use Rattle.std.proofs.Common.{◌≡◌, ℕ, zero, suc, ◌+◌, ◌<◌, Bool, false, cond, List, [], ◌∷◌, ◌++◌, length, map, get_or, Ok, sym, ap, subst, ◌∙◌, arith}
use Rattle.std.specs.Prelude.{All}
use Rattle.std.specs.Int.{w8, w32, to_be_bytes}
use Rattle.std.specs.List.{flat_map, AllByRecursion}
use Rattle.std.proofs.Math.ListN.{get_or-map}
use Rattle.std.proofs.lemmas.List.Elements.{All-from_recursion, recursion_from_All}
use Rattle.seq_base.specs.Writable.{IsWritable}
use Rattle.count_set.specs.Sets.{is_among}
use Rattle.wire_view.specs.declared.messages.MessageView.{MessageView}
use Rattle.wire_view.specs.Messages.{read_of, message_of}
use Rattle.node_core.specs.declared.event.Event.{Event}
use Rattle.node_core.specs.declared.event.Event.TheVariants.{Arrived, Deliver, Tick}
use Rattle.node_core.specs.declared.entry.Entry.{Entry}
use Rattle.run_record.specs.declared.record.Journal.{Journal}
use Rattle.node_core.specs.Readable.{IsReadable}
use Rattle.journal_rules.specs.Records.{journal_in}
use Rattle.trace_form.specs.declared.account.Account.{Account}
use Rattle.trace_form.specs.declared.contents.Contents.{Contents}
use Rattle.trace_form.specs.declared.trace.Trace.{Trace}
use Rattle.trace_form.specs.Contents.{bare, trace_of}
use Rattle.trace_form.specs.Fitting.{Traces}
use Rattle.trace_form.specs.Spelling.{list_spelling, bytes_spelling, event_spelling, statements_spelling, entry_spelling, entries_spelling, head_spelling, batches_spelling, account_spelling, accounts_spelling, opening_spelling, contents_spelling}
use Rattle.trace_form.specs.Codes.{reason_code}
use Rattle.audit_laws.specs.Audited.{IsReportedReadably}
use Rattle.audit_laws.proofs.Reported.{read_through}

-- each of them is a byte
abbrev AreBytes : List ℕ → Type 0
AreBytes bytes = AllByRecursion (λ b. b < 256) bytes

first_part : (xs ys : List ℕ) → AreBytes (xs ++ ys) → AreBytes xs
first_part [] ys each = tt
first_part (x ∷ xs) ys each = (each.0, first_part xs ys each.1)

last_part : (xs ys : List ℕ) → AreBytes (xs ++ ys) → AreBytes ys
last_part [] ys each = each
last_part (x ∷ xs) ys each = last_part xs ys each.1

module _ (readable : (bytes : List ℕ) (m : MessageView) → All (λ b. b < 256) bytes → read_of bytes ≡ Ok m → IsWritable (message_of m)) where
  event_readable : (e : Event) → AreBytes (event_spelling e) → IsReadable e
  event_readable (Arrived list) each = tt
  event_readable (Deliver from bytes) each = λ m read.
      let delivered : AreBytes bytes = last_part (to_be_bytes w32 (length bytes)) bytes (last_part (to_be_bytes w8 from) (bytes_spelling bytes) each.1) in
      readable bytes m (All-from_recursion (λ (b : ℕ). b < 256) bytes delivered) read
  event_readable (Tick floor) each = tt

  event_part : (e : Entry) → AreBytes (entry_spelling e) → AreBytes (event_spelling e.event)
  event_part e each =
      let code : List ℕ = to_be_bytes w8 (reason_code e.turned.reason) in
      let kept : List ℕ = to_be_bytes w32 e.turned.kept in
      first_part (event_spelling e.event) code (first_part (event_spelling e.event ++ code) kept
      (first_part (event_spelling e.event ++ code ++ kept) (statements_spelling e.turned.sealed) each))

  entries_readable : (es : List Entry) → AreBytes (flat_map entry_spelling es) → AllByRecursion (λ (e : Entry). IsReadable e.event) es
  entries_readable [] each = tt
  entries_readable (e ∷ es) each = (
    event_readable e.event (event_part e (first_part (entry_spelling e) (flat_map entry_spelling es) each)),
    entries_readable es (last_part (entry_spelling e) (flat_map entry_spelling es) each),
  )

  journal_readable : (a : Account) → AreBytes (account_spelling a) → AllByRecursion (λ (e : Entry). IsReadable e.event) a.journal.entries
  unfolding entries_spelling
  journal_readable a each = entries_readable a.journal.entries
      (last_part (to_be_bytes w32 (length a.journal.entries)) (flat_map entry_spelling a.journal.entries)
      (first_part (entries_spelling a.journal.entries) (head_spelling a.head ++ batches_spelling a.batches) each))

  account_readable : (faulty : List ℕ) (start : ℕ) (accounts : List Account) (k : ℕ) → AreBytes (accounts_spelling faulty start accounts)
      → is_among faulty (start + k) ≡ false
      → AllByRecursion (λ (e : Entry). IsReadable e.event) (get_or accounts k bare).journal.entries
  account_readable faulty start [] k each honest = tt
  account_readable faulty start (a ∷ accounts) zero each honest =
      let here : start + 0 ≡ start = omega arith in
      let reported : AreBytes (cond (is_among faulty start) [] (account_spelling a)) =
      first_part (cond (is_among faulty start) [] (account_spelling a)) (accounts_spelling faulty (suc start) accounts) each in
      journal_readable a (subst (λ (b : Bool). AreBytes (cond b [] (account_spelling a))) (subst (λ (s : ℕ). is_among faulty s ≡ false) here honest) reported)
  account_readable faulty start (a ∷ accounts) (suc k) each honest =
      let next : start + suc k ≡ suc start + k = omega arith in
      account_readable faulty (suc start) accounts k
      (last_part (cond (is_among faulty start) [] (account_spelling a)) (accounts_spelling faulty (suc start) accounts) each)
      (subst (λ (s : ℕ). is_among faulty s ≡ false) next honest)

  contents_readable : (c : Contents) → AreBytes (contents_spelling c) → IsReportedReadably (trace_of c).run
  unfolding contents_spelling
  contents_readable c each = λ r honest.
      let accounts = c.accounts in
      let reported : AreBytes (accounts_spelling c.opening.faulty 0 accounts) =
      last_part (opening_spelling c.opening ++ flat_map list_spelling c.arrivals) (accounts_spelling c.opening.faulty 0 accounts) each in
      let place : 0 + r ≡ r = omega arith in
      let read : AllByRecursion (λ (e : Entry). IsReadable e.event) (get_or accounts r bare).journal.entries =
      account_readable c.opening.faulty 0 accounts r reported (subst (λ (s : ℕ). is_among c.opening.faulty s ≡ false) (sym place) honest.correct) in
      let journal : journal_in (trace_of c).run r ≡ (get_or accounts r bare).journal.entries =
      sym (read_through (λ (j : Journal). j.entries) (map (λ (x : Account). x.journal) accounts) r bare.journal)
      ∙ ap (λ (j : Journal). j.entries) (get_or-map (λ (x : Account). x.journal) accounts r bare) in
      subst (All (λ (e : Entry). IsReadable e.event)) (sym journal)
      (All-from_recursion (λ (e : Entry). IsReadable e.event) (get_or accounts r bare).journal.entries read)

  pub reported_readably : (trace : Trace) (bytes : List ℕ) → Traces trace bytes → All (λ b. b < 256) bytes → IsReportedReadably trace.run
  reported_readably trace bytes t each =
      subst (λ (u : Trace). IsReportedReadably u.run) (sym t.is)
      (contents_readable t.contents (subst AreBytes t.spelled (recursion_from_All (λ (b : ℕ). b < 256) bytes each)))
