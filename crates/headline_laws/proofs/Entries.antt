-- Entries of the journals of a record, and what they delivered and sealed.
use Rattle.std.proofs.Common.{◌≡◌, ℕ, List, [], ◌∷◌, map, true, false, Option, Some, None, Result, Ok, Err, refl, sym, ap, subst, ◌∙◌, inl, inr, slice_get}
use Rattle.std.specs.Prelude.{Contains}
use Rattle.std.specs.List.{flat_map}
use Rattle.std.specs.Option.{option_map_or}
use Rattle.std.proofs.lemmas.Bool.{cases_Bool}
use Rattle.std.proofs.lemmas.List.Elements.{Contains-append_left, Contains-append_right}
use Rattle.std.proofs.lemmas.Option.{none-some, same_Some, slice_get-get_or}
use Rattle.wire_view.specs.Messages.{read_of}
use Rattle.wire_view.specs.declared.fault.WireFault.{WireFault}
use Rattle.wire_view.specs.declared.messages.MessageView.{MessageView}
use Rattle.agreement_laws.proofs.Lists.{here, there, none_inside, here_or_there}
use Rattle.node_core.specs.declared.event.Event.{Event}
use Rattle.node_core.specs.declared.event.Event.TheVariants.{Arrived, Deliver, Tick}
use Rattle.node_core.specs.declared.entry.Entry.{Entry}
use Rattle.run_record.specs.declared.record.Journal.{Journal}
use Rattle.run_record.specs.declared.record.RunRecord.{RunRecord}
use Rattle.node_core.specs.Rows.{Check}
use Rattle.node_core.specs.Delivered.{message_in}
use Rattle.std.specs.Result.{result_ok}
use Rattle.run_verdict.specs.Parts.{Part, parts_of}
use Rattle.run_verdict.specs.Sealed.{was_sealed}
use Rattle.run_verdict.specs.Shown.{IsHonest, HasEntry, Delivers, IsForged}
use Rattle.run_verdict.proofs.TestMeanings.{sealed_shows, sealed_holds}
use Rattle.journal_rules.specs.Records.{journal_in}

module _ {X Y : Type 0} where
  pub image_inside : (f : X → Y) (xs : List X) (x : X) → Contains xs x → Contains (map f xs) (f x)
  image_inside f [] x inside = absurd (none_inside x inside)
  image_inside f (z ∷ xs) x inside = elim (here_or_there z xs x inside) [
    | inl same ↦ subst (λ (y : X). Contains (map f (z ∷ xs)) (f y)) same (here (f z) (map f xs))
    | inr rest ↦ there (f z) (map f xs) (f x) (image_inside f xs x rest)
  ]

  pub in_flat_map : (f : X → List Y) (xs : List X) (x : X) (y : Y) → Contains xs x → Contains (f x) y → Contains (flat_map f xs) y
  in_flat_map f [] x y inside has = absurd (none_inside x inside)
  in_flat_map f (z ∷ xs) x y inside has = elim (here_or_there z xs x inside) [
    | inl same ↦ Contains-append_left (f z) (flat_map f xs) y (subst (λ (w : X). Contains (f w) y) (sym same) has)
    | inr rest ↦ Contains-append_right (f z) (flat_map f xs) y (in_flat_map f xs x y rest has)
  ]

pub at_some_place : {X : Type 0} (xs : List X) (x : X) → Contains xs x → (k : ℕ) × (slice_get xs k ≡ Some x)
at_some_place xs x (k, inside, at) = (k, slice_get-get_or xs k x inside ∙ ap Some at)

-- the journal that holds an entry of a replica
pub journal_of_entry : (run : RunRecord) (r : ℕ) (e : Entry) → Contains (journal_in run r) e
    → (journal : Journal) × (slice_get run.journals r ≡ Some journal) × Contains journal.entries e
journal_of_entry run r e inside = by (slice_get run.journals r) refl inside
  where
    by : (o : Option Journal) → slice_get run.journals r ≡ o → Contains (option_map_or (λ (j : Journal). j.entries) o []) e
        → (journal : Journal) × (slice_get run.journals r ≡ Some journal) × Contains journal.entries e
    by None is inside = absurd (none_inside e inside)
    by (Some journal) is inside = (journal, is, inside)

pub entries_are : (run : RunRecord) (r : ℕ) (journal : Journal) → slice_get run.journals r ≡ Some journal → journal_in run r ≡ journal.entries
entries_are run r journal is = ap (λ (o : Option Journal). option_map_or (λ (j : Journal). j.entries) o []) is

pub has_entry : (run : RunRecord) (r : ℕ) (e : Entry) → IsHonest run r → Contains (journal_in run r) e → (at : ℕ) × HasEntry run r at e
has_entry run r e honest inside =
    let journal = journal_of_entry run r e inside in
    let place = at_some_place journal.0.entries e journal.2 in
    (place.0, record { journal = journal.0; honest = honest; journal_is = journal.1; entry_is = place.1 })

-- what an entry delivers
pub delivers : (e : Entry) (m : MessageView) → message_in e.event ≡ Some m → Delivers e m
delivers e m is = by e.event refl
  where
    reported : (r : Result MessageView WireFault) → result_ok r ≡ Some m → r ≡ Ok m
    reported (Ok other) found = ap (λ (n : MessageView). Ok n) (same_Some other m found)
    reported (Err fault) found = absurd (none-some m found)

    by : (event : Event) → e.event ≡ event → Delivers e m
    by (Arrived txs) same = absurd (none-some m (sym (ap message_in same) ∙ is))
    by (Deliver from bytes) same = record { from = from; bytes = bytes; event = same; read = reported (read_of bytes) (sym (ap message_in same) ∙ is) }
    by (Tick floor) same = absurd (none-some m (sym (ap message_in same) ∙ is))

-- a statement that an entry of the replica's journal sealed
pub record IsSealedIn (run : RunRecord) (r : ℕ) (statement : List ℕ) : Type 0 where
  pub entry : Entry
  pub inside : Contains (journal_in run r) entry
  pub sealed : Contains entry.turned.sealed statement

-- In a record with no forged seal, a part's honest signer sealed its statement, if the seal fits.
module _ (fits : Check) (run : RunRecord) (unforged : ¬ IsForged fits run) where
  pub was_sealed_by : (i : ℕ) (e : Entry) (m : MessageView) (p : Part) → IsHonest run i → Contains (journal_in run i) e → message_in e.event ≡ Some m
      → Contains (parts_of m) p → IsHonest run p.signer → fits p.signer p.statement p.seal ≡ true → IsSealedIn run p.signer p.statement
  was_sealed_by i e m p receives inside is among signs fit = elim (cases_Bool (was_sealed run.journals p.signer p.statement)) [
    | inl so ↦
        let has = sealed_shows run p.signer p.statement so in record {
          entry = has.entry;
          inside = subst (λ (es : List Entry). Contains es has.entry) (sym (entries_are run p.signer has.journal has.journal_is)) has.entry_is;
          sealed = has.sealed;
        }
    | inr not_so ↦
        let entry = has_entry run i e receives inside in
        let place = at_some_place (parts_of m) p among in
        absurd (unforged (
          record { receiver = i; entry = entry.0; part = place.0; signer = p.signer },
          record {
            entry = e;
            message = m;
            part = p;
            has = entry.1;
            delivers = delivers e m is;
            stands = place.1;
            signer = refl;
            forged = record {
              honest = signs;
              fits = fit;
              never = λ has. (let some : was_sealed run.journals p.signer p.statement ≡ true = sealed_holds run p.signer p.statement has in
                  let never : true ≡ false = sym some ∙ not_so in cc);
            };
          },
        ))
  ]
