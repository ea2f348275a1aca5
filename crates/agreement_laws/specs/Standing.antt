-- The place of a block in a chain of the blocks that a prefix stored.
use Rattle.std.specs.Prelude.{◌≡◌, List, Some, true, Contains}
use Rattle.agreement_laws.specs.Journals.{Named, Entry}
use Rattle.agreement_laws.specs.JournalPrefixes.{block_of, stored, chain}

-- An entry with reason Done delivered the block, and the blocks before it are the chain of its parent, which is stored
-- too.
pub record StandsAfter (prefix : List Entry) (before : List Named) (b : Named) : Type 0 where
  pub entry : Entry
  pub inside : Contains prefix entry
  pub done : entry.is_done ≡ true
  pub carries : block_of entry.message ≡ Some b
  pub parent : Named
  pub is_stored : Contains (stored prefix) parent
  pub digest : parent.digest ≡ b.cert.block
  pub view : parent.view ≡ b.cert.view
  pub chain_before : chain (stored prefix) parent ≡ before
