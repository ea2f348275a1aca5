-- How two prefixes, their blocks and their chains agree: definitions that the laws of this crate share.
use Rattle.std.specs.Prelude.{◌≡◌, ◌⊎◌, List, ◌++◌, Contains}
use Rattle.seq_base.specs.Setting.{Parameters}
use Rattle.agreement_laws.specs.JournalPrefixes.{LeadsTo, chain, stored}
use Rattle.agreement_laws.specs.Journals.{Named, Entry}
use Rattle.agreement_laws.specs.Records.{Record, IsJournalPrefix, IsSoundRecord}

-- the claim, for two prefixes of honest journals in a sound record
abbrev pub WherePrefixes : Parameters → Record → List Entry → List Entry → Type 0 → Type 0
WherePrefixes s x prefix other claim = IsSoundRecord s x → IsJournalPrefix s x prefix → IsJournalPrefix s x other → claim

-- along these blocks, one of the two extends the other
abbrev pub AreOnOneChain : List Named → Named → Named → Type 0
AreOnOneChain blocks b c = LeadsTo blocks b c ⊎ LeadsTo blocks c b

-- one of the two chains is a prefix of the other
abbrev pub OneBeginsOther : List Named → List Named → Type 0
OneBeginsOther one other = ((more : List Named) × (one ≡ other ++ more)) ⊎ ((more : List Named) × (other ≡ one ++ more))

-- the claim, if the prefix stored a block and these are its chain
abbrev pub WhereChain : List Entry → Named → List Named → Type 0 → Type 0
WhereChain prefix end blocks claim = Contains (stored prefix) end → chain (stored prefix) end ≡ blocks → claim

-- if one prefix stored b and the other c, with the same digest, they are the same block with the same chain in both
abbrev pub AreStoredAlike : List Entry → List Entry → Named → Named → Type 0
AreStoredAlike prefix other b c = Contains (stored prefix) b → Contains (stored other) c → b.digest ≡ c.digest
    → (b ≡ c) × (chain (stored prefix) b ≡ chain (stored other) c)
