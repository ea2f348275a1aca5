-- The history of a record: its blocks by their digests, and each sealed vote with the lock of the prefix before it.
use Rattle.std.specs.Prelude.{ℕ, List, [], ◌∷◌, ◌++◌, map, Option}
use Rattle.std.specs.Option.{option_map, option_map_or, option_and_then}
use Rattle.seq_base.specs.declared.digest.Digest.{Digest}
use Rattle.seq_base.specs.Setting.{Parameters}
use Rattle.hotstuff_core.specs.History.{Vote, History}
use Rattle.agreement_laws.specs.Journals.{Named, first_block, Ballot, Entry}
use Rattle.agreement_laws.specs.JournalPrefixes.{block_at, parent_in, lock}
use Rattle.agreement_laws.specs.Records.{Record, known}

-- the view of the block with this digest among these, 0 if there is none
abbrev pub view_at : List Named → Digest → ℕ
view_at blocks digest = option_map_or (λ (b : Named). b.view) (block_at blocks digest) 0

-- its parent's digest
abbrev pub parent_at : List Named → Digest → Option Digest
parent_at blocks digest = option_map (λ (p : Named). p.digest) (option_and_then (parent_in blocks) (block_at blocks digest))

abbrev pub vote : Named → Ballot → Vote Digest
vote locked v = record { view = v.view; block = v.block; lock = locked.digest }

-- the votes that these entries sealed after a prefix
abbrev pub votes_from : Parameters → List Entry → List Entry → List (Vote Digest)
votes_from s before [] = []
votes_from s before (e ∷ entries) = map (vote (lock s before)) e.sealed ++ votes_from s (before ++ e ∷ []) entries

abbrev pub history : Parameters → Record → History Digest
history s x = record {
  first = first_block.digest;
  view = view_at (known s x);
  parent = parent_at (known s x);
  faulty = x.faulty;
  votes = λ r. votes_from s [] (x.journal r);
}
