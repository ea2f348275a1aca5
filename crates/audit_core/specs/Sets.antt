-- Marks and voters as sets and maps, in the order of their keys.
use Rattle.std.specs.Prelude.{ℕ, List, [], Bool, unwrap_or}
use Rattle.std.specs.List.{list_any}
use Rattle.std.specs.BTreeMap.{insert_entry, is_at}
use Rattle.std.specs.BTreeSet.{insert_key}
use Rattle.std.specs.Map.{lookup}
use Rattle.std.specs.declared.cmp.Ordering.{Ordering}
use Rattle.std.specs.Ordering.{nat_cmp, ordering_then}
use Rattle.std.specs.Cmp.Lexicographic.{slice_cmp}
use Rattle.seq_base.specs.declared.digest.Digest.{Digest}
use Rattle.journal_rules.specs.Sealed.{Mark}

-- by the kind, then by the view
abbrev pub pair_cmp : ℕ × ℕ → ℕ × ℕ → Ordering
pair_cmp a b = ordering_then (nat_cmp a.0 b.0) (nat_cmp a.1 b.1)

abbrev pub has_mark : List (ℕ × ℕ) → Mark → Bool
has_mark marks m = list_any (is_at (pair_cmp (m.kind, m.view))) marks

-- one more mark
abbrev pub with_mark : Mark → List (ℕ × ℕ) → List (ℕ × ℕ)
with_mark m marks = insert_key pair_cmp marks (m.kind, m.view)

abbrev pub digest_cmp : Digest → Digest → Ordering
digest_cmp a b = slice_cmp nat_cmp a.0 b.0

-- the voters of a block, none if it has no entry
abbrev pub voters_of : List (Digest × List ℕ) → Digest → List ℕ
voters_of entries block = unwrap_or (lookup (is_at (digest_cmp block)) entries) []

-- the voters of a block are replaced by these
abbrev pub with_voters : Digest → List ℕ → List (Digest × List ℕ) → List (Digest × List ℕ)
with_voters block voters entries = insert_entry digest_cmp entries block voters
