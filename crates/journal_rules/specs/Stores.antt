-- Stored blocks, and the blocks that a journal shows: the same ones, found by their digests.
use Rattle.std.specs.Prelude.{◌≡◌, ◌≢◌, ℕ, ◌<◌, List, Contains, Option, Some, if◌then◌else◌}
use Rattle.std.specs.Option.{option_map}
use Rattle.seq_base.specs.declared.digest.Digest.{Digest}
use Rattle.seq_base.specs.declared.block.Block.{Block}
use Rattle.seq_base.specs.Blocks.{first_digest, digest_eq}
use Rattle.seq_base.specs.Lists.{AreFresh}
use Rattle.block_store.specs.Store.{block_digest, block_at}
use Rattle.chain_state.specs.Lists.{fresh_of}
use Rattle.chain_store.specs.Chains.{LeadBack}
use Rattle.agreement_laws.specs.Journals.{Named, first_block}
use Rattle.agreement_laws.specs.JournalPrefixes.{block_at as shown_at}
use Rattle.journal_rules.specs.Shown.{named}

-- what is stored under a digest, including the first block
abbrev pub at : List Block → Digest → Option Named
at store d = if digest_eq d first_digest then Some first_block else option_map named (block_at store d)

-- a stored block, and its parent
pub record HasParent (store : List Block) (b : Block) : Type 0 where
  pub parent : Named
  pub found : at store b.cert.block ≡ Some parent
  pub view : parent.view ≡ b.cert.view
  pub below : b.cert.view < b.view
  pub other : block_digest b ≢ first_digest

-- The same blocks are found in the store and among those that a journal shows. Each listed block is found under its own
-- digest, and each stored one has its parent stored.
pub record IsTied (store : List Block) (blocks : List Named) : Type 0 where
  pub same : (d : Digest) → shown_at blocks d ≡ at store d
  pub listed : (b : Named) → Contains blocks b → at store b.digest ≡ Some b
  pub parents : (d : Digest) (b : Block) → block_at store d ≡ Some b → HasParent store b

-- Chains of stored blocks lead back to the first block, and each block's fresh lists are short and have no duplicates.
pub record StoreKept (store : List Block) : Type 0 where
  pub led : LeadBack store
  pub fresh : (d : Digest) (b : Block) → block_at store d ≡ Some b → AreFresh (fresh_of b)
