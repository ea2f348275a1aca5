-- Blocks with the digests under which they are stored.
use Rattle.std.specs.Prelude.{◌≡◌, ◌≢◌, List, ◌∷◌, ◌++◌, map, true, All}
use Rattle.std.specs.List.{AllPairs}
use Rattle.seq_base.specs.declared.digest.Digest.{Digest}
use Rattle.seq_base.specs.declared.block.Block.{Block}
use Rattle.seq_base.specs.Blocks.{first_digest}
use Rattle.seq_base.specs.Limits.{IsWithin}
use Rattle.block_store.specs.Store.{block_digest, is_stored}

abbrev pub blocks_of : List (Digest × Block) → List Block
blocks_of entries = map (λ e. e.1) entries

-- Each block is stored after its parent.
abbrev pub HasParents : List Block → Type 0
HasParents store = (before : List Block) (block : Block) (after : List Block) → store ≡ before ++ block ∷ after → is_stored before block.cert.block ≡ true

-- the invariant of each store
pub record IsStore (store : List Block) : Type 0 where
  pub within : All IsWithin store
  -- No block has the first block's digest.
  pub not_first : All (λ b. block_digest b ≢ first_digest) store
  pub parents : HasParents store
  -- No two blocks have the same digest.
  pub differ : AllPairs (λ a b. block_digest a ≢ block_digest b) store

pub record AreKept (entries : List (Digest × Block)) : Type 0 where
  -- each under its own digest
  pub own : map (λ e. e.0) entries ≡ map block_digest (blocks_of entries)
  pub store : IsStore (blocks_of entries)
