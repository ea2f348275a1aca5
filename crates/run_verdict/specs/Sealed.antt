-- What journals have sealed.
use Rattle.std.specs.Prelude.{ℕ, List, Bool, false, Option, Some, None, ◌==◌, slice_get}
use Rattle.std.specs.List.{list_any}
use Rattle.std.specs.Cmp.Lexicographic.{pointwise}
use Rattle.node_core.specs.declared.entry.Entry.{Entry}
use Rattle.run_record.specs.declared.record.Journal.{Journal}

-- whether the turn of an entry sealed the statement
abbrev pub has_sealed : List ℕ → Entry → Bool
has_sealed statement entry = list_any (λ bytes. pointwise ◌==◌ bytes statement) entry.turned.sealed

-- whether an entry of a journal did, if there is a journal
abbrev pub is_sealed_in : List ℕ → Option Journal → Bool
is_sealed_in statement None = false
is_sealed_in statement (Some journal) = list_any (has_sealed statement) journal.entries

-- whether any entry of the signer's journal sealed the statement
abbrev pub was_sealed : List Journal → ℕ → List ℕ → Bool
was_sealed journals signer statement = is_sealed_in statement (slice_get journals signer)
