-- If each part of what was delivered was sealed by its signer, nothing is forged.
use Rattle.std.proofs.Common.{◌≡◌, ℕ, ◌+◌, List, [], ◌∷◌, Bool, true, false, Option, Some, None, refl}
use Rattle.std.specs.Prelude.{◌&&◌, if◌then◌else◌}
use Rattle.std.specs.List.{AllByRecursion as Each, enumerate_from}
use Rattle.node_core.specs.Delivered.{message_in}
use Rattle.run_record.specs.Honest.{honest_items}
use Rattle.node_core.specs.declared.entry.Entry.{Entry}
use Rattle.run_record.specs.declared.record.Journal.{Journal}
use Rattle.run_record.specs.declared.record.RunRecord.{RunRecord}
use Rattle.run_record.specs.declared.verdict.ForgedAt.{ForgedAt}
use Rattle.node_core.specs.Rows.{Check}
use Rattle.run_verdict.specs.Delivered.{honest_in}
use Rattle.run_verdict.specs.First.{first_of, counted}
use Rattle.run_verdict.specs.Forged.{forged_part, forged_from, parts_in, forged_in_entry, forged_in_journal, first_forged_of}
use Rattle.run_verdict.specs.Parts.{Part}
use Rattle.run_verdict.specs.Sealed.{was_sealed}

-- each part of what was delivered was sealed by its signer, in one of these journals
abbrev pub AreSealedIn : List Journal → List Entry → Type 0
AreSealedIn journals entries =
    Each (λ (e : Entry). Each (λ (p : Part). was_sealed journals p.signer p.statement ≡ true) (parts_in (message_in e.event))) entries

-- ---- lists

none_of_items : {X Y : Type 0} (f : ℕ × X → Option Y) (honest : ℕ → Bool) (i : ℕ) (xs : List X) → Each (λ x. (j : ℕ) → f (j, x) ≡ None) xs
    → first_of f (honest_items honest i xs) ≡ None
none_of_items f honest i [] each = refl
none_of_items f honest i (x ∷ xs) each = by (honest i) (none_of_items f honest (i + 1) xs each.1)
  where
    by : (t : Bool) → first_of f (honest_items honest (i + 1) xs) ≡ None
        → first_of f (if t then (i, x) ∷ honest_items honest (i + 1) xs else honest_items honest (i + 1) xs) ≡ None
    by true rest = rw (each.0 i) rest
    by false rest = rest

none_of_numbered : {X Y : Type 0} (f : ℕ × X → Option Y) (i : ℕ) (xs : List X) → Each (λ x. (j : ℕ) → f (j, x) ≡ None) xs
    → first_of f (enumerate_from i xs) ≡ None
none_of_numbered f i [] each = refl
none_of_numbered f i (x ∷ xs) each = rw (each.0 i) (none_of_numbered f (i + 1) xs each.1)

-- ---- the search finds none

module _ (fits : Check) (run : RunRecord) where
  abbrev Sealed : Part → Type 0
  Sealed p = was_sealed run.journals p.signer p.statement ≡ true

  unforged_part : (receiver entry : ℕ) (p : Part) → Sealed p → (number : ℕ) → forged_part fits run receiver entry (number, p) ≡ None
  unforged_part receiver entry p sealed number = rw sealed (by (honest_in run p.signer))
    where
      by : (t : Bool) → ◌≡◌ {A = Option ForgedAt} (if (t && false) && fits p.signer p.statement p.seal
          then Some (record { receiver = receiver; entry = entry; part = number; signer = p.signer }) else None) None
      by true = refl
      by false = refl

  unforged_parts : (receiver entry number : ℕ) (parts : List Part) → Each Sealed parts → forged_from fits run receiver entry number parts ≡ None
  unfolding forged_from
  unforged_parts receiver entry number parts each = none_of_numbered (forged_part fits run receiver entry) number parts (all parts each)
    where
      all : (parts : List Part) → Each Sealed parts → Each (λ (p : Part). (j : ℕ) → forged_part fits run receiver entry (j, p) ≡ None) parts
      all [] each = tt
      all (p ∷ parts) each = (unforged_part receiver entry p each.0, all parts each.1)

  unforged_journal : (journal : Journal) → AreSealedIn run.journals journal.entries → (receiver : ℕ) → forged_in_journal fits run (receiver, journal) ≡ None
  unfolding forged_in_journal forged_in_entry
  unforged_journal journal each receiver = none_of_numbered (forged_in_entry fits run receiver) 0 journal.entries (all journal.entries each)
    where
      all : (entries : List Entry) → AreSealedIn run.journals entries → Each (λ (e : Entry). (j : ℕ) → forged_in_entry fits run receiver (j, e) ≡ None) entries
      all [] each = tt
      all (e ∷ entries) each = ((λ j. unforged_parts receiver (counted j) 0 (parts_in (message_in e.event)) each.0), all entries each.1)

  pub unforged : Each (λ (j : Journal). AreSealedIn run.journals j.entries) run.journals → first_forged_of fits run ≡ None
  unfolding first_forged_of
  unforged each = none_of_items (forged_in_journal fits run) (honest_in run) 0 run.journals (all run.journals each)
    where
      all : (journals : List Journal) → Each (λ (j : Journal). AreSealedIn run.journals j.entries) journals
          → Each (λ (j : Journal). (receiver : ℕ) → forged_in_journal fits run (receiver, j) ≡ None) journals
      all [] each = tt
      all (j ∷ journals) each = (unforged_journal j each.0, all journals each.1)
