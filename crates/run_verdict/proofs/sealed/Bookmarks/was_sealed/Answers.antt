use Rattle.std.proofs.Common.{◌≡◌, true, false, Some, slice_get, refl, sym, ◌∙◌}
use Rattle.std.specs.List.{list_any}
use Rattle.std.proofs.lemmas.Option.{slice_get_read}
use Rattle.run_verdict.specs.Sealed.{has_sealed}
use Rattle.run_verdict.proofs.SealedJournals.{position_any, sealed_in_parts, sealed_after, sealed_before}
use Rattle.run_verdict.proofs.sealed.Bookmarks.was_sealed.Goals as goal

pub returns-in-Some-entry_that_sealed : goal.returns-in-Some-entry_that_sealed
returns-in-Some-entry_that_sealed c =
    let passes = has_sealed c.args.statement.now in
    let there : slice_get c.args.journals.now c.args.signer ≡ Some c.in-Some.journal.now =
    slice_get_read c.args.journals.now _ c.args.signer c.in-Some.journal.now refl (c.in-Some.ensures.lookup.3.0) c.in-Some.ensures.lookup.1 in
    let found : list_any passes c.split_at.result.1.now ≡ true =
    sym (position_any passes c.split_at.result.1.now) ∙ rw (← c.in-Some-entry_that_sealed.ensures) refl in
    sealed_after _ _ (rw (c.split_at.ensures.back, c.as_slice-entries.ensures) at found)
    ∙ sym (sealed_in_parts c.args.journals.now c.args.signer c.args.statement.now c.in-Some.journal.now c.min-start.result there)

pub returns : goal.returns
returns c =
    let passes = has_sealed c.args.statement.now in
    let there : slice_get c.args.journals.now c.args.signer ≡ Some c.in-Some.journal.now =
    slice_get_read c.args.journals.now _ c.args.signer c.in-Some.journal.now refl (c.in-Some.ensures.lookup.3.0) c.in-Some.ensures.lookup.1 in
    let none : list_any passes c.split_at.result.1.now ≡ false =
    sym (position_any passes c.split_at.result.1.now) ∙ rw (← c.in_default-entry_that_sealed.ensures) refl in
    let is : c.is_some.result ≡ list_any passes c.split_at.result.0.now =
    c.is_some.ensures ∙ rw c.entry_that_sealed-2.ensures (position_any passes c.split_at.result.0.now) in
    (rw (c.split_at.ensures.front, c.as_slice-entries.ensures) at is)
    ∙ sealed_before _ _ (rw (c.split_at.ensures.back, c.as_slice-entries.ensures) at none)
    ∙ sym (sealed_in_parts c.args.journals.now c.args.signer c.args.statement.now c.in-Some.journal.now c.min-start.result there)
