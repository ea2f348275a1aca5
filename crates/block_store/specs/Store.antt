-- Stored blocks, in the order in which they were stored, with lookup by digest.
use Rattle.std.specs.Prelude.{ℕ, List, [], ◌∷◌, ◌++◌, Bool, true, false, ◌||◌, not, Option, Some, None, Result, Ok, Err, is_some, find, if◌then◌else◌}
use Rattle.std.specs.Option.{option_map}
use Rattle.std.specs.Borrow.{Bor}
use Rattle.seq_base.specs.declared.digest.Digest.{Digest}
use Rattle.seq_base.specs.declared.block.Block.{Block}
use Rattle.seq_base.specs.Blocks.{first_digest, digest_eq, block_eq}
use Rattle.seq_base.specs.Spelling.{block_spelling}
use Rattle.wire_write.specs.Digests.{digest_of}
use Rattle.block_store.specs.declared.fault.StoreFault.{StoreFault}
use Rattle.block_store.specs.declared.fault.StoreFault.TheVariants.{Orphan, Clash}

-- the digest of a block's bytes
unfoldable pub block_digest : Block → Digest
block_digest block = digest_of (block_spelling block)

abbrev pub has_digest : Digest → Block → Bool
has_digest digest block = digest_eq digest (block_digest block)

-- the stored block of a digest; the first block is not among these
abbrev pub block_at : List Block → Digest → Option Block
block_at store digest = find (has_digest digest) store

-- The first block is always stored.
abbrev pub is_stored : List Block → Digest → Bool
is_stored store digest = digest_eq digest first_digest || is_some (block_at store digest)

-- the view of a stored block
abbrev pub view_of : List Block → Digest → Option ℕ
view_of store digest = if digest_eq digest first_digest then Some 0 else option_map (λ b. b.view) (block_at store digest)

-- whether the block that is stored, if there is one, is a different block
abbrev pub is_other : Option Block → Block → Bool
is_other None block = false
is_other (Some stored) block = not (block_eq stored block)

-- whether a different block has the digest: the first block, or a stored one
abbrev pub clashes : List Block → Digest → Block → Bool
clashes store digest block = if digest_eq digest first_digest then true else is_other (block_at store digest) block

-- the block is appended, unless it is stored already
abbrev pub with_block : Block → List Block → List Block
with_block block store = if is_some (block_at store (block_digest block)) then store else store ++ block ∷ []

-- the result of storing a block, unless out of memory
abbrev pub put_answer : List Block → Block → Result Digest StoreFault
put_answer store block =
    if is_stored store block.cert.block then (if clashes store (block_digest block) block then Err (Clash (block_digest block)) else Ok (block_digest block))
    else Err (Orphan block.cert.block)

-- the borrowed block, if there is one
abbrev pub shown : Option (Bor Block) → Option Block
shown found = option_map (λ b. b.now) found
