-- The text for each reason why a block is not stored.
use Rattle.std.specs.Prelude.{ℕ, List, codes}
use Rattle.block_store.specs.declared.fault.StoreFault.{StoreFault}
use Rattle.block_store.specs.declared.fault.StoreFault.TheVariants.{Orphan, Clash, NoMemory}

abbrev pub fault_words : StoreFault → List ℕ
fault_words (Orphan parent) = codes "the parent is not stored"
fault_words (Clash digest) = codes "another block has the digest"
fault_words NoMemory = codes "no memory"
