-- The chain state of a stored block, and whether orders and blocks fit it.
use Rattle.std.specs.Prelude.{◌≡◌, ℕ, ◌≤◌, List, [], length, true, None, Some, All}
use Rattle.std.specs.List.{fold}
use Rattle.std.specs.Option.{option_map_or}
use Rattle.seq_base.specs.declared.digest.Digest.{Digest}
use Rattle.seq_base.specs.declared.block.Block.{Block}
use Rattle.seq_base.specs.Blocks.{first_digest}
use Rattle.seq_base.specs.Setting.{Parameters}
use Rattle.block_store.specs.Store.{block_at, is_stored}
use Rattle.block_store.specs.Chains.{following, chain_of}
use Rattle.chain_state.specs.Lists.{lists_of}
use Rattle.chain_state.specs.Standings.{Standings, applied, standing_for}

-- stored blocks, with the setting of their chains
pub record Stored : Type 0 where
  pub setting : Parameters
  pub blocks : List Block

-- one more block, if it is stored
abbrev pub block_on : List Block → Standings → Digest → Standings
block_on store chain digest = option_map_or (λ b. applied chain (lists_of b)) (block_at store digest) chain

-- the chain state of a stored block: block by block, from the first block's child to it
unfoldable pub chain_state_of : Stored → Digest → Standings
chain_state_of s digest = fold (block_on s.blocks) (standing_for s.setting []) (chain_of s.blocks digest)

-- a cached chain state, with its block
pub record Kept : Type 0 where
  pub block : Digest
  pub chain : Standings

-- it is that of a stored block
pub record IsOf (s : Stored) (kept : Kept) : Type 0 where
  pub stored : is_stored s.blocks kept.block ≡ true
  pub same : kept.chain ≡ chain_state_of s kept.block

abbrev pub AreOf : Stored → List Kept → Type 0
AreOf s kept = All (IsOf s) kept

-- The cache holds no more chain states than this, however many blocks are stored.
abbrev pub IsBounded : List Kept → Type 0
IsBounded kept = length kept ≤ 6

-- Every chain leads back to the first block, in no more steps than there are stored blocks.
pub record LeadBack (store : List Block) : Type 0 where
  pub first : block_at store first_digest ≡ None
  pub parents : (digest : Digest) (b : Block) → block_at store digest ≡ Some b → is_stored store b.cert.block ≡ true
  pub ends : (steps : ℕ) (digest : Digest) → length store ≤ steps → following steps store digest ≡ chain_of store digest
