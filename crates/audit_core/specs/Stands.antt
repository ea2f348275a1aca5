-- What the state of one pass has to do with the prefix of the journal that it checked.
use Rattle.std.specs.Prelude.{◌≡◌, ◌≢◌, ◌↔◌, ℕ, ◌≤◌, ◌<◌, List, [], length, map, take, Some, None, true, ◌⊎◌, All, Contains}
use Rattle.std.specs.List.{AllPairs}
use Rattle.seq_base.specs.declared.block.Block.{Block}
use Rattle.seq_base.specs.declared.digest.Digest.{Digest}
use Rattle.seq_base.specs.Setting.{Parameters}
use Rattle.count_set.specs.Sets.{is_among}
use Rattle.hotstuff_core.specs.Rules.{State as Safe}
use Rattle.agreement_laws.specs.Journals.{Named, Ballot, Entry as Plain}
use Rattle.agreement_laws.specs.JournalPrefixes.{block_at, stored, voters as voters_in, sealed_in as ballots_in}
use Rattle.node_core.specs.declared.entry.Entry.{Entry}
use Rattle.journal_rules.specs.JournalPrefixes.{arrived_in}
use Rattle.journal_rules.specs.Held.{SafeTied}
use Rattle.journal_rules.specs.Rules.{Scale, IsLawful}
use Rattle.journal_rules.specs.Sealed.{Mark, marks_in, sealed_in}
use Rattle.journal_rules.specs.Shown.{shown}
use Rattle.journal_rules.specs.Stores.{StoreKept}
use Rattle.audit_core.specs.Audited.{Audited}
use Rattle.audit_core.specs.Sets.{has_mark, voters_of}

-- the same voters, and the same count
pub record AreAlike (one other : List ℕ) : Type 0 where
  pub count : length one ≡ length other
  pub among : (r : ℕ) → is_among one r ≡ is_among other r

-- the view of the last vote, or 0 where there is none
pub record IsLast (voted : ℕ) (votes : List Ballot) : Type 0 where
  pub below : All (λ v. v.view ≤ voted) votes
  pub last : (voted ≡ 0) ⊎ ((v : Ballot) × Contains votes v × (v.view ≡ voted))

-- The voters held for a stored block are those of its view. Votes are delivered only for stored blocks, each in its
-- view.
pub record VotesTied (prefix : List Plain) (votes : Digest → List ℕ) : Type 0 where
  pub same : (d : Digest) (b : Named) → block_at (stored prefix) d ≡ Some b → AreAlike (votes d) (voters_in b.view d prefix)
  pub none : (d : Digest) → block_at (stored prefix) d ≡ None → votes d ≡ []
  pub elsewhere : (d : Digest) (v : ℕ) → ((b : Named) → block_at (stored prefix) d ≡ Some b → b.view ≡ v → ⊥) → voters_in v d prefix ≡ []

-- The stored blocks, the lock, the commit and the voters are those that a prefix shows.
pub record Ties (s : Parameters) (prefix : List Plain) (store : List Block) (safe : Safe) (votes : Digest → List ℕ) : Type 0 where
  -- an upper bound of the lock's view
  pub high : ℕ
  pub safe_tied : SafeTied s store safe high prefix
  pub led : StoreKept store
  pub votes_tied : VotesTied prefix votes

-- The state is that of a prefix, checked against this scale. What arrived is a prefix of the arrival list, the views of
-- votes ascend, and no two statements have the same kind and view.
pub record Stands (by : Scale) (before : List Entry) (j : Audited) : Type 0 where
  pub setting : j.setting ≡ by.setting
  pub replica : j.replica ≡ by.replica
  pub arrivals : j.arrivals ≡ by.arrivals
  pub kept : j.kept ≡ length (arrived_in before)
  pub begins : arrived_in before ≡ take (length (arrived_in before)) by.arrivals
  pub ties : Ties by.setting (map shown before) j.store j.safety (voters_of j.voters)
  pub voted : IsLast j.safety.voted (ballots_in (map shown before))
  pub rise : AllPairs (λ earlier later. earlier.view < later.view) (ballots_in (map shown before))
  pub apart : AllPairs (λ a b. a ≢ b) (marks_in (sealed_in before))
  pub marks : (m : Mark) → (has_mark j.marks m ≡ true) ↔ Contains (marks_in (sealed_in before)) m

-- The state is that of a prefix that keeps all rules.
pub record HasAudited (by : Scale) (before : List Entry) (j : Audited) : Type 0 where
  pub lawful : IsLawful by before
  pub stands : Stands by before j
