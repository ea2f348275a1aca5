-- How a replica updates its lock and its commit when it sees a certificate.
use Rattle.std.specs.Prelude.{◌≡◌, List, Option, None, Some, nat_lt, true, if◌then◌else◌, Contains}
use Rattle.std.specs.Option.{option_and_then}
use Rattle.seq_base.specs.declared.digest.Digest.{Digest}
use Rattle.seq_base.specs.Setting.{Parameters}
use Rattle.agreement_laws.specs.Journals.{Named, Entry}
use Rattle.agreement_laws.specs.JournalPrefixes.{stored, parent_of, head_of}
use Rattle.agreement_laws.specs.Lawful.{MayBeDone, EachEntry}

-- the one of greater view
abbrev pub higher : Named → Option Named → Named
higher b None = b
higher b (Some c) = if nat_lt b.view c.view then c else b

-- the lock after a certificate of this block is seen
abbrev pub lock_seen : List Named → Named → Option Digest → Named
lock_seen blocks locked certified = higher locked (option_and_then (parent_of blocks) certified)

-- the commit after one is seen
abbrev pub commit_seen : List Named → Named → Option Digest → Named
commit_seen blocks committed certified = higher committed (option_and_then (head_of blocks) certified)

-- Each entry with reason Done meets `MayBeDone`, and different stored blocks have different digests.
pub record IsKeptPrefix (s : Parameters) (prefix : List Entry) : Type 0 where
  pub done : EachEntry (λ before e. e.is_done ≡ true → MayBeDone s before e.message) prefix
  pub one_block : (a b : Named) → Contains (stored prefix) a → Contains (stored prefix) b → a.digest ≡ b.digest → a ≡ b
