-- What is stored of the blocks received so far, so that a collision is found in one step.
use Rattle.std.specs.Prelude.{◌≡◌, ◌≢◌, ℕ, List, Bool, true, Option, option_map}
use Rattle.std.specs.Borrow.{Bor}
use Rattle.std.specs.List.{list_any, find, AllByRecursion}
use Rattle.std.specs.Str.{bytes_eq}
use Rattle.std.specs.declared.cmp.Ordering.{Ordering}
use Rattle.std.specs.Ordering.{nat_cmp}
use Rattle.std.specs.Cmp.Lexicographic.{slice_cmp}
use Rattle.std.specs.BTreeSet.{BTreeSet, contains}
use Rattle.std.specs.BTreeMap.{BTreeMap, get}
use Rattle.seq_base.specs.declared.digest.Digest.{Digest}
use Rattle.seq_base.specs.declared.block.Block.{Block}
use Rattle.seq_base.specs.Blocks.{block_eq, digest_eq, first_digest}
use Rattle.seq_base.specs.Spelling.{block_spelling}
use Rattle.seq_base.specs.Writable.{IsWritableBlock}
use Rattle.block_store.specs.Store.{block_digest}
use Rattle.run_verdict.specs.Collided.{Received, place_of}

-- byte by byte
abbrev pub bytes_cmp : Bor (List ℕ) → Bor (List ℕ) → Ordering
bytes_cmp a b = slice_cmp nat_cmp a.now b.now

abbrev pub digest_cmp : Digest → Digest → Ordering
digest_cmp a b = slice_cmp nat_cmp a.0 b.0

-- whether a block was received, and whether one with this spelling was
abbrev pub has_block : List Received → Block → Bool
has_block before block = list_any (λ r. block_eq r.block block) before

abbrev pub has_bytes : List Received → List ℕ → Bool
has_bytes before bytes = list_any (λ r. bytes_eq (block_spelling r.block) bytes) before

-- the place of the first block with this digest
abbrev pub first_with : List Received → Digest → Option (ℕ × ℕ)
first_with before digest = option_map place_of (find (λ r. digest_eq (block_digest r.block) digest) before)

-- The set has the bytes of the blocks received so far. The map has where each of their digests came first. None of the
-- blocks collides.
pub record Knows (before : List Received) (blocks : BTreeSet (Bor (List ℕ))) (places : BTreeMap Digest (ℕ × ℕ)) : Type 0 where
  pub spelled : (bytes : Bor (List ℕ)) → contains bytes_cmp blocks bytes ≡ has_bytes before bytes.now
  pub first : (digest : Digest) → get digest_cmp places digest ≡ first_with before digest
  pub writable : AllByRecursion (λ r. IsWritableBlock r.block) before
  pub apart : (a b : Block) → has_block before a ≡ true → has_block before b ≡ true → block_digest a ≡ block_digest b → a ≡ b
  pub above : (a : Block) → has_block before a ≡ true → block_digest a ≢ first_digest
