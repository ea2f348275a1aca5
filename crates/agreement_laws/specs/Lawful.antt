-- The rules that an honest replica's journal obeys.
use Rattle.std.specs.Prelude.{◌≡◌, ℕ, ◌<◌, ◌≤◌, List, ◌∷◌, ◌++◌, length, true, ◌⊎◌, All, ⊤}
use Rattle.std.specs.List.{Any, AllPairs}
use Rattle.std.specs.List.Sorted.{IsStrictlyIncreasing}
use Rattle.seq_base.specs.declared.digest.Digest.{Digest}
use Rattle.seq_base.specs.declared.block.Cert.{Cert}
use Rattle.seq_base.specs.Setting.{Parameters, quorum_of}
use Rattle.agreement_laws.specs.Journals.{Named, first_block, voters_of, Message, Ballot, Entry}
use Rattle.agreement_laws.specs.JournalPrefixes.{stored, lock, LeadsTo, sealed_in}

-- n-f votes of distinct replicas, in ascending order
pub record HasVotes (s : Parameters) (c : Cert) : Type 0 where
  pub positive : 1 ≤ c.view
  pub ascending : IsStrictlyIncreasing (voters_of c)
  pub below : All (λ r. r < s.n) (voters_of c)
  pub enough : length c.votes ≡ quorum_of s

-- good, except for the seals: the first block's certificate needs no votes
abbrev pub IsGood : Parameters → Cert → Type 0
IsGood s c = (c ≡ first_block.cert) ⊎ HasVotes s c

-- a block with this digest is stored, with this view
abbrev pub IsStored : List Entry → Digest → ℕ → Type 0
IsStored prefix digest view = Any (λ b. (b.digest ≡ digest) × (b.view ≡ view)) (stored prefix)

-- valid, except for its orders, if its parent is stored in the prefix
pub record IsValidBlock (s : Parameters) (prefix : List Entry) (b : Named) : Type 0 where
  pub good : IsGood s b.cert
  pub parent : IsStored prefix b.cert.block b.cert.view
  pub below : b.cert.view < b.view

-- which messages may have the reason Done after this prefix
abbrev pub MayBeDone : Parameters → List Entry → Message → Type 0
MayBeDone s before (Message.NewView c) = IsGood s c × IsStored before c.block c.view
MayBeDone s before (Message.Ask c) = IsGood s c × IsStored before c.block c.view
MayBeDone s before (Message.Propose b) = IsValidBlock s before b
MayBeDone s before (Message.Give b) = IsValidBlock s before b
MayBeDone s before (Message.Vote r v d) = (r < s.n) × IsStored before d v
MayBeDone s before Message.Other = ⊤

-- a vote that an entry after this prefix may seal
pub record IsLawfulVote (s : Parameters) (before : List Entry) (e : Entry) (v : Ballot) : Type 0 where
  pub done : e.is_done ≡ true
  -- It names the digest and the view of the valid block that its entry delivered.
  pub block : Named
  pub delivered : e.message ≡ Message.Propose block
  pub digest : v.block ≡ block.digest
  pub own_view : v.view ≡ block.view
  pub valid : IsValidBlock s before block
  pub above_lock : (lock s before).view < v.view
  -- the voting rule, safeNode of chained HotStuff: the block extends the lock, or its certificate's view is above the
  -- lock's
  pub rule : LeadsTo (stored before) block (lock s before) ⊎ ((lock s before).view < block.cert.view)

-- each entry of a journal, for any type of entries, with the prefix before it
abbrev pub EachEntry : {E : Type 0} → (List E → E → Type 0) → List E → Type 0
EachEntry {E} P journal = (before : List E) (e : E) (after : List E) → journal ≡ before ++ e ∷ after → P before e

pub record KeepsVotingRule (s : Parameters) (journal : List Entry) : Type 0 where
  pub done : EachEntry (λ before e. e.is_done ≡ true → MayBeDone s before e.message) journal
  pub votes : EachEntry (λ before e. All (IsLawfulVote s before e) e.sealed) journal
  -- The views of sealed votes ascend.
  pub ascending : AllPairs (λ earlier later. earlier.view < later.view) (sealed_in journal)
