-- Abbreviations that the clauses of this crate's laws share: premises and claims.
use Rattle.std.specs.Prelude.{◌≡◌, ◌≤◌, ◌⊎◌, ℕ, Bool}
use Rattle.seq_base.specs.declared.tx.Tx.{Tx}
use Rattle.seq_base.specs.Setting.{Parameters, IsValid}
use Rattle.count_set.specs.Sets.{size_of}
use Rattle.batch_laws.specs.Batches.{StandsIn}
use Rattle.batch_laws.specs.Pairs.{StandsUpTo}
use Rattle.chain_laws.specs.Chain.{IsFinalised, batch_list}
use Rattle.chain_laws.specs.ChainClaims.{Finals}
use Rattle.chain_laws.specs.Received.{Arrivals, Received}
use Rattle.chain_laws.specs.Blocks.{Chain, final_list, placed}
use Rattle.chain_laws.specs.Keeping.{AreBlocks}
use Rattle.chain_laws.specs.Proposed.{IsProposedAt, IsSolidAt}

-- the claim, for a chain of valid blocks (`AreBlocks`) in a valid setting
abbrev pub WhereBlocks : Parameters → (ℕ → Bool) → Arrivals → Chain → Type 0 → Type 0
WhereBlocks s faulty arrivals chain claim = IsValid s → AreBlocks s faulty arrivals chain → claim

-- the claim, where also at most f replicas are faulty, and enough received a before b
abbrev pub WhereFirstOver : Parameters → (ℕ → Bool) → Arrivals → Chain → Tx → Tx → Type 0 → Type 0
WhereFirstOver s faulty arrivals chain a b claim =
    IsValid s → size_of s.n faulty ≤ s.f → AreBlocks s faulty arrivals chain → Received s faulty arrivals a b → claim

-- the final list is the batches of all final proposals, one proposal after another
abbrev pub HasFinals : Parameters → Chain → Type 0
HasFinals s chain = (finals : Finals) × IsFinalised s (placed s chain) finals × (final_list s chain ≡ batch_list finals)

-- a block proposes the transaction
abbrev pub IsInSomeProposal : Parameters → Chain → Tx → Type 0
IsInSomeProposal s chain t = (number : ℕ) × IsProposedAt s chain number t

-- only one block proposes the transaction
abbrev pub IsProposedOnce : Parameters → Chain → ℕ → ℕ → Tx → Type 0
IsProposedOnce s chain one other t = IsProposedAt s chain one t → IsProposedAt s chain other t → one ≡ other

-- Where the final list holds b, and b is solid in the block that proposes it or a is in the same proposal, the list
-- holds a in the same batch or in an earlier one.
abbrev pub IsFairAt : Parameters → Chain → ℕ → ℕ → Tx → Tx → Type 0
IsFairAt s chain number j a b = StandsIn (final_list s chain) j b → IsProposedAt s chain number b
    → IsSolidAt s chain number b ⊎ IsProposedAt s chain number a → StandsUpTo (final_list s chain) j a
