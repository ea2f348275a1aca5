-- Records: the journals of all replicas, and the assumptions on their seals and digests.
use Rattle.std.specs.Prelude.{◌≡◌, ◌≢◌, ℕ, zero, suc, ◌<◌, ◌≤◌, List, [], ◌∷◌, ◌++◌, Bool, true, false, if◌then◌else◌, All, Contains}
use Rattle.std.specs.List.{filter_map}
use Rattle.seq_base.specs.declared.block.Cert.{Cert}
use Rattle.seq_base.specs.Blocks.{first_digest}
use Rattle.seq_base.specs.Setting.{Parameters}
use Rattle.count_set.specs.Sets.{size_of}
use Rattle.agreement_laws.specs.Journals.{Named, first_block, voters_of, Message, Ballot, ballot, Entry}
use Rattle.agreement_laws.specs.JournalPrefixes.{block_of, sealed_in}
use Rattle.agreement_laws.specs.Lawful.{KeepsVotingRule}

pub record Record : Type 0 where
  pub faulty : ℕ → Bool
  pub journal : ℕ → List Entry

pub record IsHonest (s : Parameters) (x : Record) (r : ℕ) : Type 0 where
  pub below : r < s.n
  pub honest : x.faulty r ≡ false

-- a prefix of an honest replica's journal
pub record IsJournalPrefix (s : Parameters) (x : Record) (prefix : List Entry) : Type 0 where
  pub replica : ℕ
  pub honest : IsHonest s x replica
  pub rest : List Entry
  pub is : x.journal replica ≡ prefix ++ rest

-- the certificate contains the replica's vote
abbrev pub NamesVoter : Cert → ℕ → Ballot → Type 0
NamesVoter c r v = Contains (voters_of c) r × (v ≡ ballot c.view c.block)

-- the message contains the replica's vote
abbrev pub Carries : Message → ℕ → Ballot → Type 0
Carries (Message.NewView c) r v = NamesVoter c r v
Carries (Message.Ask c) r v = NamesVoter c r v
Carries (Message.Propose b) r v = NamesVoter b.cert r v
Carries (Message.Give b) r v = NamesVoter b.cert r v
Carries (Message.Vote q w d) r v = (q ≡ r) × (v ≡ ballot w d)
Carries Message.Other r v = ⊥

-- Every honest vote in a message that an honest replica accepted (Done) was sealed by its replica.
abbrev pub IsUnforged : Parameters → Record → Type 0
IsUnforged s x = (i : ℕ) (e : Entry) (r : ℕ) (v : Ballot) → IsHonest s x i → Contains (x.journal i) e → e.is_done ≡ true → IsHonest s x r
    → Carries e.message r v → Contains (sealed_in (x.journal r)) v

-- the blocks that Propose and Give entries of the honest replicas below n delivered, whatever the reason of the turn
abbrev pub delivered : ℕ → Record → List Named
delivered zero x = []
delivered (suc r) x = delivered r x ++ (if x.faulty r then [] else filter_map (λ e. block_of e.message) (x.journal r))

-- Two such blocks with the same digest are equal, and none has the first block's digest.
pub record IsUncollided (s : Parameters) (x : Record) : Type 0 where
  pub one_block : (a b : Named) → Contains (delivered s.n x) a → Contains (delivered s.n x) b → a.digest ≡ b.digest → a ≡ b
  pub not_first : All (λ b. b.digest ≢ first_digest) (delivered s.n x)

pub record IsSoundRecord (s : Parameters) (x : Record) : Type 0 where
  pub few_faulty : size_of s.n x.faulty ≤ s.f
  pub lawful : (r : ℕ) → IsHonest s x r → KeepsVotingRule s (x.journal r)
  pub unforged : IsUnforged s x
  pub uncollided : IsUncollided s x

-- all blocks of the record
abbrev pub known : Parameters → Record → List Named
known s x = first_block ∷ delivered s.n x
