-- The tests of the search say what a reader believes of them.
use Rattle.std.proofs.Common.{◌≡◌, ℕ, List, Bool, true, false, not, ◌&&◌, Option, Some, None, Result, Ok, Err, refl, sym, ap, ◌∙◌, slice_get}
use Rattle.std.specs.Prelude.{nat_lt}
use Rattle.std.specs.List.{list_any, Contains}
use Rattle.std.specs.Result.{result_ok}
use Rattle.std.specs.Cmp.Lexicographic.{bytes_decides}
use Rattle.std.specs.Str.{bytes_eq}
use Rattle.std.proofs.lemmas.Bool.{and_parts, and_from, ltb-true, lt-ltb, not-true, not_from_false, false_from_ne_true}
use Rattle.std.proofs.lemmas.List.Folds.{Any-from_list_any, list_any-from_Any}
use Rattle.count_set.specs.Sets.{is_among}
use Rattle.wire_view.specs.Messages.{read_of}
use Rattle.wire_view.specs.declared.fault.WireFault.{WireFault}
use Rattle.wire_view.specs.declared.messages.MessageView.{MessageView}
use Rattle.node_core.specs.declared.event.Event.{Event}
use Rattle.node_core.specs.declared.event.Event.TheVariants.{Arrived, Deliver, Tick}
use Rattle.node_core.specs.declared.entry.Entry.{Entry}
use Rattle.run_record.specs.declared.record.Journal.{Journal}
use Rattle.run_record.specs.declared.record.RunRecord.{RunRecord}
use Rattle.node_core.specs.Rows.{Check}
use Rattle.node_core.specs.Delivered.{message_in}
use Rattle.run_verdict.specs.Delivered.{honest_in, delivered}
use Rattle.run_verdict.specs.Sealed.{has_sealed, is_sealed_in, was_sealed}
use Rattle.run_verdict.specs.Parts.{Part}
use Rattle.run_verdict.specs.Forged.{is_forged}
use Rattle.run_verdict.specs.Shown.{IsHonest, Delivers, HasSealed, IsForgedPart}

pub honest_shows : (run : RunRecord) (replica : ℕ) → honest_in run replica ≡ true → IsHonest run replica
honest_shows run replica holds =
    let parts = and_parts (nat_lt replica run.setting.n) (not (is_among run.faulty replica)) holds in
    record { below = ltb-true replica run.setting.n parts.0; correct = not-true (is_among run.faulty replica) parts.1 }

pub honest_holds : (run : RunRecord) (replica : ℕ) → IsHonest run replica → honest_in run replica ≡ true
honest_holds run replica honest =
    and_from (nat_lt replica run.setting.n) (not (is_among run.faulty replica)) (lt-ltb replica run.setting.n honest.below)
    (not_from_false (is_among run.faulty replica) honest.correct)

-- ---- what was delivered

reported : (bytes : List ℕ) (message : MessageView) → result_ok (read_of bytes) ≡ Some message → read_of bytes ≡ Ok message
reported bytes message is = by_answer (read_of bytes) is
  where
    by_answer : (r : Result MessageView WireFault) → result_ok r ≡ Some message → r ≡ Ok message
    by_answer (Ok other) is = let same : other ≡ message = cc in ap (λ (m : MessageView). Ok m) same
    by_answer (Err fault) is = cc

pub delivers_shows : (entry : Entry) (message : MessageView) → delivered entry ≡ Some message → Delivers entry message
delivers_shows entry message is = by_event entry.event refl
  where
    by_event : (event : Event) → entry.event ≡ event → Delivers entry message
    by_event (Arrived txs) same = let none : None ≡ Some message = sym (ap message_in same) ∙ is in cc
    by_event (Deliver from bytes) same = record { from = from; bytes = bytes; event = same; read = reported bytes message (sym (ap message_in same) ∙ is) }
    by_event (Tick floor) same = let none : None ≡ Some message = sym (ap message_in same) ∙ is in cc

pub delivers_holds : (entry : Entry) (message : MessageView) → Delivers entry message → delivered entry ≡ Some message
delivers_holds entry message delivers = rw (delivers.event, delivers.read) refl

-- ---- what was sealed

-- a test that some item passes, and the item
some_item : {X : Type 0} (p : X → Bool) (xs : List X) → list_any p xs ≡ true → (x : X) × Contains xs x × (p x ≡ true)
some_item p xs passes = let any = Any-from_list_any p xs passes in (any.1, (any.0, any.2, any.3), any.4)

item_passes : {X : Type 0} (p : X → Bool) (xs : List X) (x : X) → Contains xs x → p x ≡ true → list_any p xs ≡ true
item_passes p xs x within passes = list_any-from_Any p xs (within.0, x, within.1, within.2, passes)

pub sealed_shows : (run : RunRecord) (signer : ℕ) (statement : List ℕ) → was_sealed run.journals signer statement ≡ true → HasSealed run signer statement
sealed_shows run signer statement holds = by_journal (slice_get run.journals signer) refl holds
  where
    by_journal : (o : Option Journal) → slice_get run.journals signer ≡ o → is_sealed_in statement o ≡ true → HasSealed run signer statement
    by_journal None is holds = cc
    by_journal (Some journal) is holds =
        let entry = some_item (has_sealed statement) journal.entries holds in
        let bytes = some_item (λ (bytes : List ℕ). bytes_eq bytes statement) entry.0.turned.sealed entry.2 in
        let same : bytes.0 ≡ statement = (bytes_decides bytes.0 statement).0 bytes.2 in
        record { journal = journal; entry = entry.0; journal_is = is; entry_is = entry.1; sealed = rw same at bytes.1 }

pub sealed_holds : (run : RunRecord) (signer : ℕ) (statement : List ℕ) → HasSealed run signer statement → was_sealed run.journals signer statement ≡ true
sealed_holds run signer statement has =
    let itself : bytes_eq statement statement ≡ true = (bytes_decides statement statement).1 refl in
    let entry : has_sealed statement has.entry ≡ true =
    item_passes (λ (bytes : List ℕ). bytes_eq bytes statement) has.entry.turned.sealed statement has.sealed itself in
    rw has.journal_is (item_passes (has_sealed statement) has.journal.entries has.entry has.entry_is entry)

-- ---- forged parts

module _ (check : Check) (run : RunRecord) (p : Part) where
  pub forged_shows : is_forged check run p ≡ true → IsForgedPart check run p
  forged_shows holds =
      let parts = and_parts (honest_in run p.signer && not (was_sealed run.journals p.signer p.statement)) (check p.signer p.statement p.seal) holds in
      let first = and_parts (honest_in run p.signer) (not (was_sealed run.journals p.signer p.statement)) parts.0 in
      let none : was_sealed run.journals p.signer p.statement ≡ false = not-true (was_sealed run.journals p.signer p.statement) first.1 in
      record {
        honest = honest_shows run p.signer first.0;
        fits = parts.1;
        never = λ has. let some : was_sealed run.journals p.signer p.statement ≡ true = sealed_holds run p.signer p.statement has in cc;
      }

  pub forged_holds : IsForgedPart check run p → is_forged check run p ≡ true
  forged_holds forged =
      let none : was_sealed run.journals p.signer p.statement ≡ false =
      false_from_ne_true (was_sealed run.journals p.signer p.statement)
      (λ holds. forged.never (sealed_shows run p.signer p.statement holds)) in
      and_from (honest_in run p.signer && not (was_sealed run.journals p.signer p.statement)) (check p.signer p.statement p.seal)
      (and_from (honest_in run p.signer) (not (was_sealed run.journals p.signer p.statement)) (honest_holds run p.signer forged.honest)
      (not_from_false (was_sealed run.journals p.signer p.statement) none))
      forged.fits
