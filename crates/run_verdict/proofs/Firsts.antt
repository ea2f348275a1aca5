-- The search for a forged seal answers the first place that holds one, and none where there is none.
use Rattle.std.proofs.Common.{◌≡◌, ℕ, ◌<◌, List, Bool, true, false, Option, Some, None, refl, sym, ◌∙◌, slice_get, arith, inl, inr, if◌then◌else◌}
use Rattle.wire_view.specs.declared.messages.MessageView.{MessageView}
use Rattle.node_core.specs.declared.entry.Entry.{Entry}
use Rattle.run_record.specs.declared.record.Journal.{Journal}
use Rattle.run_record.specs.declared.record.RunRecord.{RunRecord}
use Rattle.run_record.specs.declared.verdict.ForgedAt.{ForgedAt}
use Rattle.node_core.specs.Rows.{Check}
use Rattle.run_verdict.specs.First.{counted}
use Rattle.run_verdict.specs.Delivered.{honest_in, delivered}
use Rattle.run_verdict.specs.Sealed.{was_sealed}
use Rattle.run_verdict.specs.Parts.{Part, parts_of}
use Rattle.run_verdict.specs.Forged.{is_forged, forged_part, forged_from, parts_in, forged_in_entry, forged_in_journal, first_forged_of}
use Rattle.run_verdict.specs.Shown.{Delivers, HasSealed, WasSealed, IsForgedPart, IsForgedAt, IsForged, IsFirstForged}
use Rattle.run_verdict.proofs.Numbered.{first_found, first_nothing, honest_answer, first_honest}
use Rattle.run_verdict.proofs.TestMeanings.{honest_shows, honest_holds, delivers_shows, delivers_holds, sealed_shows, sealed_holds, forged_shows, forged_holds}

-- an answer under a test
answer_reported : {Y : Type 0} (b : Bool) (o : Option Y) (y : Y) → (if b then o else None) ≡ Some y → (b ≡ true) × (o ≡ Some y)
answer_reported true o y found = (refl, found)
answer_reported false o y found = cc

answer_none : {Y : Type 0} (b : Bool) (o : Option Y) → b ≡ true → (if b then o else None) ≡ None → o ≡ None
answer_none true o holds none = none
answer_none false o holds none = cc

one_only : {X : Type 0} (x y : X) (o : Option X) → o ≡ Some x → o ≡ Some y → x ≡ y
one_only x y o first second = cc

same_item : {X : Type 0} (xs : List X) (a b : ℕ) (x y : X) → a ≡ b → slice_get xs a ≡ Some x → slice_get xs b ≡ Some y → x ≡ y
same_item xs a b x y same first second = cc

module _ (check : Check) (run : RunRecord) where
  -- a forged part is told
  part_reported : (receiver entry number : ℕ) (p : Part) → IsForgedPart check run p → forged_part check run receiver entry (number, p) ≡ None → ⊥
  part_reported receiver entry number p forged none =
      let holds : is_forged check run p ≡ true = forged_holds check run p forged in
      let some = rw holds at none in
      cc

  -- none in the parts, an entry, a journal, and the run, says that there is none at a place
  none_in_parts : (receiver entry : ℕ) (parts : List Part) → forged_from check run receiver entry 0 parts ≡ None → (number : ℕ) (p : Part)
      → slice_get parts number ≡ Some p → ¬ IsForgedPart check run p
  unfolding forged_from
  none_in_parts receiver entry parts none number p stands = λ forged.
      part_reported receiver entry number p forged (first_nothing (forged_part check run receiver entry) 0 parts none number number p stands (omega arith))

  none_in_entry : (receiver number : ℕ) (entry : Entry) → forged_in_entry check run receiver (number, entry) ≡ None
      → (message : MessageView) → Delivers entry message
      → (part : ℕ) (p : Part) → slice_get (parts_of message) part ≡ Some p → ¬ IsForgedPart check run p
  unfolding forged_in_entry
  none_in_entry receiver number entry none message delivers part p stands =
      let is : delivered entry ≡ Some message = delivers_holds entry message delivers in
      none_in_parts receiver (counted number) (parts_of message) (rw is at none) part p stands

  none_in_journal : (receiver : ℕ) (journal : Journal) → forged_in_journal check run (receiver, journal) ≡ None → (number : ℕ) (entry : Entry)
      → slice_get journal.entries number ≡ Some entry → forged_in_entry check run receiver (number, entry) ≡ None
  unfolding forged_in_journal
  none_in_journal receiver journal none number entry there =
      first_nothing (forged_in_entry check run receiver) 0 journal.entries none number number entry there (omega arith)

  -- what is at a place of a forged seal is told
  entry_reported : (at : ForgedAt) (forged : IsForgedAt check run at) → forged_in_entry check run at.receiver (at.entry, forged.entry) ≡ None → ⊥
  entry_reported at forged none =
      none_in_entry at.receiver at.entry forged.entry none forged.message forged.delivers at.part forged.part forged.stands forged.forged

  journal_reported : (at : ForgedAt) (forged : IsForgedAt check run at) → forged_in_journal check run (at.receiver, forged.has.journal) ≡ None → ⊥
  journal_reported at forged none = entry_reported at forged (none_in_journal at.receiver forged.has.journal none at.entry forged.entry forged.has.entry_is)

  replica_reported : (at : ForgedAt) (forged : IsForgedAt check run at)
      → honest_answer (honest_in run) (forged_in_journal check run) (at.receiver, forged.has.journal) ≡ None → ⊥
  replica_reported at forged none =
      journal_reported at forged
      (answer_none (honest_in run at.receiver) (forged_in_journal check run (at.receiver, forged.has.journal))
      (honest_holds run at.receiver forged.has.honest) none)

  pub no_place : first_forged_of check run ≡ None → ¬ IsForged check run
  unfolding first_forged_of
  no_place none = λ place.
      let at = place.0 in
      let forged = place.1 in
      let walk = sym (first_honest (honest_in run) (forged_in_journal check run) 0 run.journals) ∙ none in
      replica_reported at forged (first_nothing (honest_answer (honest_in run) (forged_in_journal check run)) 0 run.journals walk
      at.receiver at.receiver forged.has.journal forged.has.journal_is (omega arith))

  -- what is told is a forged part of a message that was delivered
  record PartFound (receiver number : ℕ) (entry : Entry) (reported : ForgedAt) : Type 0 where
    message : MessageView
    delivers : Delivers entry message
    place : ℕ
    part : Part
    stands : slice_get (parts_of message) place ≡ Some part
    forged : IsForgedPart check run part
    is_reported : reported ≡ record { receiver = receiver; entry = counted number; part = place; signer = part.signer }
    earlier : (j : ℕ) (p : Part) → j < place → slice_get (parts_of message) j ≡ Some p → ¬ IsForgedPart check run p

  in_message : (receiver number : ℕ) (entry : Entry) (reported : ForgedAt) (message : MessageView) → delivered entry ≡ Some message
      → forged_from check run receiver (counted number) 0 (parts_of message) ≡ Some reported → PartFound receiver number entry reported
  unfolding forged_from
  in_message receiver number entry reported message is found =
      let f = first_found (forged_part check run receiver (counted number)) 0 (parts_of message) reported found in
      let answer = answer_reported (is_forged check run f.item)
      (Some (record { receiver = receiver; entry = counted number; part = f.place; signer = f.item.signer })) reported
      (f.gives f.place (omega arith)) in
      record {
        message = message;
        delivers = delivers_shows entry message is;
        place = f.place;
        part = f.item;
        stands = f.is;
        forged = forged_shows check run f.item answer.0;
        is_reported = one_only reported (record { receiver = receiver; entry = counted number; part = f.place; signer = f.item.signer })
            (Some reported) refl (sym answer.1);
        earlier = λ j p below there forged. part_reported receiver (counted number) j p forged (f.earlier j j p below there (omega arith));
      }

  in_entry : (receiver number : ℕ) (entry : Entry) (reported : ForgedAt)
      → forged_in_entry check run receiver (number, entry) ≡ Some reported → PartFound receiver number entry reported
  unfolding forged_in_entry forged_from
  in_entry receiver number entry reported found = by_message (delivered entry) refl (found)
    where
      by_message : (o : Option MessageView) → delivered entry ≡ o
          → forged_from check run receiver (counted number) 0 (parts_in o) ≡ Some reported → PartFound receiver number entry reported
      by_message None is found = let none : None ≡ Some reported = found in cc
      by_message (Some message) is found = in_message receiver number entry reported message is found

  pub first_is : (reported : ForgedAt) → first_forged_of check run ≡ Some reported → IsFirstForged check run reported
  unfolding first_forged_of forged_in_journal
  first_is reported found =
      let j = first_found (honest_answer (honest_in run) (forged_in_journal check run)) 0 run.journals reported
      (sym (first_honest (honest_in run) (forged_in_journal check run) 0 run.journals) ∙ found) in
      let answer = answer_reported (honest_in run j.place) (forged_in_journal check run (j.place, j.item)) reported (j.gives j.place (omega arith)) in
      let e = first_found (forged_in_entry check run j.place) 0 j.item.entries reported answer.1 in
      let p = in_entry j.place e.place e.item reported (e.gives e.place (omega arith)) in
      let at : ForgedAt = record { receiver = j.place; entry = e.place; part = p.place; signer = p.part.signer } in
      record {
        at = at;
        is_reported = p.is_reported;
        forged = record {
          entry = e.item;
          message = p.message;
          part = p.part;
          has = record { journal = j.item; honest = honest_shows run j.place answer.0; journal_is = j.is; entry_is = e.is };
          delivers = p.delivers;
          stands = p.stands;
          signer = refl;
          forged = p.forged;
        };
        first = λ other before forged.
            elim before [
              | inl below ↦ replica_reported other forged (j.earlier other.receiver other.receiver forged.has.journal below forged.has.journal_is (omega arith))
              | inr following ↦
                  let journal : forged.has.journal ≡ j.item =
                  same_item run.journals other.receiver j.place forged.has.journal j.item following.0 forged.has.journal_is j.is in
                  let there : slice_get j.item.entries other.entry ≡ Some forged.entry = rw journal at forged.has.entry_is in
                  elim following.1 [
                    | inl below ↦ entry_reported other forged (rw following.0 (e.earlier other.entry other.entry forged.entry below there (omega arith)))
                    | inr inside ↦
                        let entry : forged.entry ≡ e.item = same_item j.item.entries other.entry e.place forged.entry e.item inside.0 there e.is in
                        let message : forged.message ≡ p.message =
                        one_only forged.message p.message
                        (delivered e.item) (rw entry at (delivers_holds forged.entry forged.message forged.delivers))
                        (delivers_holds e.item p.message p.delivers) in
                        p.earlier other.part forged.part inside.1 (rw message at forged.stands) forged.forged
                  ]
            ];
      }

  pub none_forged : (¬ IsForged check run) → first_forged_of check run ≡ None
  none_forged never = by_answer (first_forged_of check run) refl
    where
      by_answer : (o : Option ForgedAt) → first_forged_of check run ≡ o → first_forged_of check run ≡ None
      by_answer None is = is
      by_answer (Some reported) is = let first = first_is reported is in absurd (never (first.at, first.forged))

  -- where nothing is forged, what fits was sealed
  pub fitting_was_sealed : (¬ IsForged check run) → WasSealed check run
  fitting_was_sealed never receiver at entry message number p has delivers stands honest fits = by_seal (was_sealed run.journals p.signer p.statement) refl
    where
      by_seal : (b : Bool) → was_sealed run.journals p.signer p.statement ≡ b → HasSealed run p.signer p.statement
      by_seal true sealed = sealed_shows run p.signer p.statement sealed
      by_seal false none =
          absurd
          (never (
            record { receiver = receiver; entry = at; part = number; signer = p.signer },
            record {
              entry = entry;
              message = message;
              part = p;
              has = has;
              delivers = delivers;
              stands = stands;
              signer = refl;
              forged = record {
                honest = honest;
                fits = fits;
                never = λ has. let sealed : was_sealed run.journals p.signer p.statement ≡ true = sealed_holds run p.signer p.statement has in cc;
              };
            },
          ))
