-- The parts of a trace are read back.
use Rattle.std.proofs.Common.{◌≡◌, ℕ, zero, suc, ◌^◌, ◌<◌, ◌≤◌, Bool, true, false, cond, List, [], ◌++◌, length, Some, Result, Ok, Err, refl, sym, ap, subst, ◌∙◌, append_assoc, arith}
use Rattle.std.specs.Prelude.{◌==◌, nat_lt}
use Rattle.std.specs.Int.{w8, w32, to_be_bytes}
use Rattle.std.specs.List.{flat_map, AllByRecursion}
use Rattle.std.proofs.lemmas.Bool.{ltb-true, lt-ltb, eqb-true}
use Rattle.std.proofs.lemmas.List.{append-nil}
use Rattle.wire_view.proofs.Exact.{IsBytes, IsBytes-after, IsExact, went_on, ok_is, step, known_value, restated, as_format, refit}
use Rattle.seq_base.specs.declared.tx.Tx.{Tx}
use Rattle.node_core.specs.declared.event.Event.{Event}
use Rattle.node_core.specs.declared.event.Event.TheVariants.{Arrived, Deliver, Tick}
use Rattle.node_core.specs.declared.event.Reason.{Reason}
use Rattle.node_core.specs.declared.event.Reason.TheVariants.{Done, BadWire, Foreign, ViewLimit, NotLeader, OldView, BadSeal, BadCert, Orphan, Misfit, Clash, Unsafe, Repeat}
use Rattle.wire_view.specs.declared.fault.WireFault.TheVariants.{Short, Trailing, Kind, Version, Count, Shape}
use Rattle.node_core.specs.declared.entry.Entry.{Entry}
use Rattle.run_record.specs.declared.record.Head.{Head}
use Rattle.wire_view.specs.Reading.{go_on, ◌>>=◌, give}
use Rattle.trace_form.specs.declared.account.Account.{Account}
use Rattle.trace_form.specs.Reading.{byte_at, each_at, checked}
use Rattle.trace_form.specs.Lists.{bytes_at, list_at}
use Rattle.trace_form.specs.Spelling.{entries_spelling, head_spelling, batches_spelling, bytes_spelling, list_spelling, statements_spelling, event_spelling, entry_spelling, account_spelling}
use Rattle.trace_form.specs.Accounts.{statements_at, arrived_at, delivered_at, tick_at, event_at, after_kind, reason_at, entry, entry_at, entries_at, head_at, batches_at, account_at}
use Rattle.trace_form.specs.Codes.{reason_code, reason_named}
use Rattle.trace_form.specs.Fitting.{FitsList, FitsBytes, FitsEvent, FitsEntry, FitsAccount}
use Rattle.trace_form.proofs.Exact.{checked_exact}
use Rattle.trace_form.proofs.FieldExact.{byte_exact, exact32, short_exact, bytes_exact, coded_exact}
use Rattle.trace_form.proofs.Each.{each_exact, flat_texts, flat_fits, fits_flat}
use Rattle.trace_form.proofs.Txs.{list_exact}

-- a list of which each is read alike
pub flat_exact : {A : Type 0} {text : A → List ℕ} {Fits : A → Type 0} {one : List ℕ → Result (A × List ℕ) ℕ} (exact : IsExact text Fits one) (n : ℕ)
    → IsExact (flat_map text) (λ xs. (length xs ≡ n) × AllByRecursion Fits xs) (each_at (λ before. one) n [])
flat_exact {A} {text} {Fits} {one} exact n = record {
  takes = λ bytes xs rest fits e.
      let t = (each_exact (λ before. one) (λ before. text) (λ before. Fits) (λ before. exact) n).takes bytes xs rest fits e in
      (t.0 ∙ ap (λ (z : List ℕ). z ++ rest) (flat_texts text [] xs), (t.1.0, flat_fits Fits [] xs t.1.1));
  again = λ xs rest h.
      ap (λ (z : List ℕ). each_at (λ before. one) n [] (z ++ rest)) (sym (flat_texts text [] xs))
      ∙ (each_exact (λ before. one) (λ before. text) (λ before. Fits) (λ before. exact) n).again xs rest (h.0, fits_flat Fits [] xs h.1);
}

pub statements_exact : IsExact statements_spelling (λ xs. (length xs ≤ 2) × AllByRecursion FitsBytes xs) statements_at
unfolding statements_at step as_format
statements_exact = restated
    (step length (short_exact 2 (omega arith)) (λ count. as_format (flat_exact bytes_exact count)) (λ count xs h. h.0))
    statements_spelling (λ xs. (length xs ≤ 2) × AllByRecursion FitsBytes xs) (λ xs. refl) (λ xs h. (h.0, h.1.1)) (λ xs h. (h.0, (refl, h.1)))

-- ---- reasons

named_back : (c : ℕ) (a : Reason) → reason_named c ≡ Some a → reason_code a ≡ c
named_back zero a is = let same : Done ≡ a = cc in ap reason_code (sym same)
named_back (suc zero) a is = let same : BadWire Short ≡ a = cc in ap reason_code (sym same)
named_back (suc (suc zero)) a is = let same : BadWire Trailing ≡ a = cc in ap reason_code (sym same)
named_back (suc (suc (suc zero))) a is = let same : BadWire Kind ≡ a = cc in ap reason_code (sym same)
named_back (suc (suc (suc (suc zero)))) a is = let same : BadWire Version ≡ a = cc in ap reason_code (sym same)
named_back (suc (suc (suc (suc (suc zero))))) a is = let same : BadWire Count ≡ a = cc in ap reason_code (sym same)
named_back (suc (suc (suc (suc (suc (suc zero)))))) a is = let same : BadWire Shape ≡ a = cc in ap reason_code (sym same)
named_back (suc (suc (suc (suc (suc (suc (suc zero))))))) a is = let same : Foreign ≡ a = cc in ap reason_code (sym same)
named_back (suc (suc (suc (suc (suc (suc (suc (suc zero)))))))) a is = let same : ViewLimit ≡ a = cc in ap reason_code (sym same)
named_back (suc (suc (suc (suc (suc (suc (suc (suc (suc zero))))))))) a is = let same : NotLeader ≡ a = cc in ap reason_code (sym same)
named_back (suc (suc (suc (suc (suc (suc (suc (suc (suc (suc zero)))))))))) a is = let same : OldView ≡ a = cc in ap reason_code (sym same)
named_back (suc (suc (suc (suc (suc (suc (suc (suc (suc (suc (suc zero))))))))))) a is = let same : BadSeal ≡ a = cc in ap reason_code (sym same)
named_back (suc (suc (suc (suc (suc (suc (suc (suc (suc (suc (suc (suc zero)))))))))))) a is = let same : BadCert ≡ a = cc in ap reason_code (sym same)
named_back (suc (suc (suc (suc (suc (suc (suc (suc (suc (suc (suc (suc (suc zero))))))))))))) a is = let same : Orphan ≡ a = cc in ap reason_code (sym same)
named_back (suc (suc (suc (suc (suc (suc (suc (suc (suc (suc (suc (suc (suc (suc zero)))))))))))))) a is = let same : Misfit ≡ a = cc in
    ap reason_code (sym same)
named_back (suc (suc (suc (suc (suc (suc (suc (suc (suc (suc (suc (suc (suc (suc (suc zero))))))))))))))) a is = let same : Clash ≡ a =
    cc in ap reason_code (sym same)
named_back (suc (suc (suc (suc (suc (suc (suc (suc (suc (suc (suc (suc (suc (suc (suc (suc zero)))))))))))))))) a is =
    let same : Unsafe ≡ a = cc in ap reason_code (sym same)
named_back (suc (suc (suc (suc (suc (suc (suc (suc (suc (suc (suc (suc (suc (suc (suc (suc (suc zero))))))))))))))))) a is =
    let same : Repeat ≡ a = cc in ap reason_code (sym same)
named_back (suc (suc (suc (suc (suc (suc (suc (suc (suc (suc (suc (suc (suc (suc (suc (suc (suc (suc c)))))))))))))))))) a is = absurd (cc)

pub reason_exact : IsExact (λ a. to_be_bytes w8 (reason_code a)) (λ a. Unit {0}) reason_at
unfolding reason_at
reason_exact = coded_exact reason_code reason_named coded named_back
  where
    coded : (a : Reason) → (reason_code a < 256) × (reason_named (reason_code a) ≡ Some a)
    coded Done = (omega arith, refl)
    coded (BadWire Short) = (omega arith, refl)
    coded (BadWire Trailing) = (omega arith, refl)
    coded (BadWire Kind) = (omega arith, refl)
    coded (BadWire Version) = (omega arith, refl)
    coded (BadWire Count) = (omega arith, refl)
    coded (BadWire Shape) = (omega arith, refl)
    coded Foreign = (omega arith, refl)
    coded ViewLimit = (omega arith, refl)
    coded NotLeader = (omega arith, refl)
    coded OldView = (omega arith, refl)
    coded BadSeal = (omega arith, refl)
    coded BadCert = (omega arith, refl)
    coded Orphan = (omega arith, refl)
    coded Misfit = (omega arith, refl)
    coded Clash = (omega arith, refl)
    coded Unsafe = (omega arith, refl)
    coded Repeat = (omega arith, refl)

-- ---- events

-- what is taken after a kind
record After (n kind : ℕ) (bytes : List ℕ) (e : Event) (rest : List ℕ) : Type 0 where
  pub text : List ℕ
  pub spelled : event_spelling e ≡ to_be_bytes w8 kind ++ text
  pub bytes_are : bytes ≡ text ++ rest
  pub fits : FitsEvent n e

arrived_after : (n : ℕ) (bytes : List ℕ) (e : Event) (rest : List ℕ) → IsBytes bytes → arrived_at bytes ≡ Ok (e, rest) → After n 1 bytes e rest
unfolding arrived_at
arrived_after n bytes e rest fits is =
    let w = went_on (list_at true bytes) (λ list. give (Arrived list)) (e, rest) is in
    let list = w.0.0 in
    let t = (list_exact true).takes bytes list w.0.1 fits w.1 in
    let same = ok_is (Arrived list, w.0.1) (e, rest) w.2 in
    let event : Arrived list ≡ e = ap (λ (z : Event × List ℕ). z.0) same in
    let last : w.0.1 ≡ rest = ap (λ (z : Event × List ℕ). z.1) same in
    record {
      text = list_spelling list;
      spelled = ap event_spelling (sym event);
      bytes_are = t.0 ∙ ap (λ (z : List ℕ). list_spelling list ++ z) last;
      fits = subst (FitsEvent n) event t.1;
    }

tick_after : (n : ℕ) (bytes : List ℕ) (e : Event) (rest : List ℕ) → IsBytes bytes → tick_at bytes ≡ Ok (e, rest) → After n 3 bytes e rest
unfolding tick_at
tick_after n bytes e rest fits is =
    let w = went_on _ (λ floor. give (Tick floor)) (e, rest) is in
    let floor = w.0.0 in
    let t = exact32.takes bytes floor w.0.1 fits w.1 in
    let same = ok_is (Tick floor, w.0.1) (e, rest) w.2 in
    let event : Tick floor ≡ e = ap (λ (z : Event × List ℕ). z.0) same in
    let last : w.0.1 ≡ rest = ap (λ (z : Event × List ℕ). z.1) same in
    record {
      text = to_be_bytes w32 floor;
      spelled = ap event_spelling (sym event);
      bytes_are = t.0 ∙ ap (λ (z : List ℕ). to_be_bytes w32 floor ++ z) last;
      fits = subst (FitsEvent n) event t.1;
    }

from_exact : (n : ℕ) → n < 256 → IsExact (to_be_bytes w8) (λ r. r < n) (checked (λ r. nat_lt r n) byte_at)
from_exact n small = refit (checked_exact (λ r. nat_lt r n) byte_exact) (λ r. r < n) (λ r h. ltb-true r n h.1) (λ r h. (omega (arith, h), lt-ltb r n h))

delivered_after : (n : ℕ) → n < 256 → (bytes : List ℕ) (e : Event) (rest : List ℕ) → IsBytes bytes → delivered_at n bytes ≡ Ok (e, rest)
    → After n 2 bytes e rest
unfolding delivered_at
delivered_after n small bytes e rest fits is =
    let w = went_on _ (λ from. bytes_at >>= λ b. give (Deliver from b)) (e, rest) is in
    let from = w.0.0 in
    let t = (from_exact n small).takes bytes from w.0.1 fits w.1 in
    let following : IsBytes w.0.1 = IsBytes-after (to_be_bytes w8 from) w.0.1 (subst IsBytes t.0 fits) in
    let v = went_on (bytes_at w.0.1) (λ b. give (Deliver from b)) (e, rest) w.2 in
    let body = v.0.0 in
    let u = bytes_exact.takes w.0.1 body v.0.1 following v.1 in
    let same = ok_is (Deliver from body, v.0.1) (e, rest) v.2 in
    let event : Deliver from body ≡ e = ap (λ (z : Event × List ℕ). z.0) same in
    let last : v.0.1 ≡ rest = ap (λ (z : Event × List ℕ). z.1) same in
    record {
      text = to_be_bytes w8 from ++ bytes_spelling body;
      spelled = ap event_spelling (sym event);
      bytes_are = t.0 ∙ ap (λ (z : List ℕ). to_be_bytes w8 from ++ z) (u.0 ∙ ap (λ (z : List ℕ). bytes_spelling body ++ z) last)
          ∙ sym (append_assoc (to_be_bytes w8 from) (bytes_spelling body) rest);
      fits = subst (FitsEvent n) event (t.1, u.1);
    }

event_takes : (n : ℕ) → n < 256 → (bytes : List ℕ) (e : Event) (rest : List ℕ) → IsBytes bytes → event_at n bytes ≡ Ok (e, rest)
    → (bytes ≡ event_spelling e ++ rest) × FitsEvent n e
unfolding event_at
event_takes n small bytes e rest fits is =
    let w = went_on (byte_at bytes) (after_kind (length bytes) n) (e, rest) is in
    let kind = w.0.0 in
    let t = byte_exact.takes bytes kind w.0.1 fits w.1 in
    let following : IsBytes w.0.1 = IsBytes-after (to_be_bytes w8 kind) w.0.1 (subst IsBytes t.0 fits) in
    let b = by (kind == 1) (kind == 2) (kind == 3) refl refl refl following w.2 in (
      t.0 ∙ ap (λ (z : List ℕ). to_be_bytes w8 kind ++ z) b.bytes_are ∙ sym (append_assoc (to_be_bytes w8 kind) b.text rest)
          ∙ ap (λ (z : List ℕ). z ++ rest) (sym b.spelled),
      b.fits,
    )
  where
    by : {kind : ℕ} {more : List ℕ} (x y z : Bool) → (kind == 1) ≡ x → (kind == 2) ≡ y → (kind == 3) ≡ z → IsBytes more
        → cond x arrived_at (cond y (delivered_at n) (cond z tick_at (λ bs. Err (length bytes)))) more ≡ Ok (e, rest) → After n kind more e rest
    by {kind} {more} true y z is1 is2 is3 following found =
        subst (λ (k : ℕ). After n k more e rest) (sym (eqb-true kind 1 is1)) (arrived_after n more e rest following found)
    by {kind} {more} false true z is1 is2 is3 following found =
        subst (λ (k : ℕ). After n k more e rest) (sym (eqb-true kind 2 is2)) (delivered_after n small more e rest following found)
    by {kind} {more} false false true is1 is2 is3 following found =
        subst (λ (k : ℕ). After n k more e rest) (sym (eqb-true kind 3 is3)) (tick_after n more e rest following found)
    by {kind} {more} false false false is1 is2 is3 following found = absurd cc

event_again : (n : ℕ) → n < 256 → (e : Event) (rest : List ℕ) → FitsEvent n e → event_at n (event_spelling e ++ rest) ≡ Ok (e, rest)
unfolding event_at arrived_at delivered_at tick_at
event_again n small (Arrived list) rest h = ap (λ (z : Result (List Tx × List ℕ) ℕ). go_on z (λ l. give (Arrived l))) ((list_exact true).again list rest h)
event_again n small (Deliver from body) rest h =
    ap (λ (z : Result (ℕ × List ℕ) ℕ). go_on z (λ f. bytes_at >>= λ b. give (Deliver f b))) ((from_exact n small).again from (bytes_spelling body ++ rest) h.0)
    ∙ ap (λ (z : Result (List ℕ × List ℕ) ℕ). go_on z (λ b. give (Deliver from b))) (bytes_exact.again body rest h.1)
event_again n small (Tick floor) rest h = ap (λ (z : Result (ℕ × List ℕ) ℕ). go_on z (λ f. give (Tick f))) (exact32.again floor rest h)

pub event_exact : (n : ℕ) → n < 256 → IsExact event_spelling (FitsEvent n) (event_at n)
event_exact n small = record { takes = event_takes n small; again = event_again n small }

-- ---- entries

pub entry_exact : (n : ℕ) → n < 256 → IsExact entry_spelling (FitsEntry n) (entry_at n)
unfolding entry_at step known_value
entry_exact n small = restated
    (step (λ (e : Entry). e.event) (event_exact n small) (λ event.
    step (λ (e : Entry). e.turned.reason) reason_exact (λ reason.
    step (λ (e : Entry). e.turned.kept) exact32 (λ kept.
    step (λ (e : Entry). e.turned.sealed) statements_exact (λ sealed. known_value (entry event reason kept sealed))
    (λ sealed e h. ap (λ (x : Entry). x.turned.sealed) h))
    (λ kept e h. ap (λ (x : Entry). x.turned.kept) h.1))
    (λ reason e h. ap (λ (x : Entry). x.turned.reason) h.1.1))
    (λ event e h. ap (λ (x : Entry). x.event) h.1.1.1))
    entry_spelling (FitsEntry n)
    (λ e.
    ap (λ (y : List ℕ). event_spelling e.event ++ (to_be_bytes w8 (reason_code e.turned.reason) ++ (to_be_bytes w32 e.turned.kept ++ y)))
    (append-nil (statements_spelling e.turned.sealed))
    ∙ sym (append_assoc (event_spelling e.event) (to_be_bytes w8 (reason_code e.turned.reason))
    (to_be_bytes w32 e.turned.kept ++ statements_spelling e.turned.sealed))
    ∙ sym (append_assoc (event_spelling e.event ++ to_be_bytes w8 (reason_code e.turned.reason)) (to_be_bytes w32 e.turned.kept)
    (statements_spelling e.turned.sealed)))
    (λ e h. record { event = h.0; kept = h.1.1.0; few = h.1.1.1.0.0; short = h.1.1.1.0.1; bare = ap (λ (x : Entry). x.turned.sends) h.1.1.1.1 })
    (λ e h. (h.event, (tt, (h.kept, ((h.few, h.short), bare_is e h.bare)))))
  where
    bare_is : (e : Entry) → e.turned.sends ≡ [] → e ≡ entry e.event e.turned.reason e.turned.kept e.turned.sealed
    bare_is e is = ap (λ (sends : List _).
        record { event = e.event; turned = record { reason = e.turned.reason; kept = e.turned.kept; sealed = e.turned.sealed; sends = sends } }) is

-- ---- what is told of a replica

entries_exact : (n : ℕ) → n < 256 → IsExact entries_spelling (λ es. (length es < 2 ^ 32) × AllByRecursion (FitsEntry n) es) (entries_at n)
unfolding entries_at entries_spelling step as_format
entries_exact n small = restated
    (step length exact32 (λ count. as_format (flat_exact (entry_exact n small) count)) (λ count es h. h.0))
    entries_spelling (λ es. (length es < 2 ^ 32) × AllByRecursion (FitsEntry n) es) (λ es. refl) (λ es h. (h.0, h.1.1)) (λ es h. (h.0, (refl, h.1)))

head_exact : IsExact head_spelling (λ h. (h.view < 2 ^ 32) × (h.commit < 2 ^ 32)) head_at
unfolding head_at head_spelling step known_value
head_exact = restated
    (step (λ (h : Head). h.view) exact32 (λ view.
    step (λ (h : Head). h.commit) exact32 (λ commit. known_value (record { view = view; commit = commit }))
    (λ commit h e. ap (λ (x : Head). x.commit) e))
    (λ view h e. ap (λ (x : Head). x.view) e.1))
    head_spelling (λ h. (h.view < 2 ^ 32) × (h.commit < 2 ^ 32)) (λ h. ap (λ (y : List ℕ). to_be_bytes w32 h.view ++ y) (append-nil (to_be_bytes w32 h.commit)))
    (λ h e. (e.0, e.1.0)) (λ h e. (e.0, (e.1, refl)))

batches_exact : IsExact batches_spelling (λ bs. (length bs < 2 ^ 32) × AllByRecursion (FitsList false) bs) batches_at
unfolding batches_at batches_spelling step as_format
batches_exact = restated
    (step length exact32 (λ count. as_format (flat_exact (list_exact false) count)) (λ count bs h. h.0))
    batches_spelling (λ bs. (length bs < 2 ^ 32) × AllByRecursion (FitsList false) bs) (λ bs. refl) (λ bs h. (h.0, h.1.1)) (λ bs h. (h.0, (refl, h.1)))

pub account_exact : (n : ℕ) → n < 256 → IsExact account_spelling (FitsAccount n) (account_at n)
unfolding account_at step known_value
account_exact n small = restated
    (step (λ (t : Account). t.journal.entries) (entries_exact n small) (λ entries.
    step (λ (t : Account). t.head) head_exact (λ head.
    step (λ (t : Account). t.batches) batches_exact (λ batches. known_value (record { journal = record { entries = entries }; head = head; batches = batches }))
    (λ batches t e. ap (λ (x : Account). x.batches) e))
    (λ head t e. ap (λ (x : Account). x.head) e.1))
    (λ entries t e. ap (λ (x : Account). x.journal.entries) e.1.1))
    account_spelling (FitsAccount n)
    (λ t. ap (λ (y : List ℕ). entries_spelling t.journal.entries ++ (head_spelling t.head ++ y)) (append-nil (batches_spelling t.batches)))
    (λ t e. record { few = e.0.0; entries = e.0.1; view = e.1.0.0; commit = e.1.0.1; few_batches = e.1.1.0.0; batches = e.1.1.0.1 })
    (λ t e. ((e.few, e.entries), ((e.view, e.commit), ((e.few_batches, e.batches), refl))))
