pub use Rattle.seq_base.specs.Blocks
pub use Rattle.seq_base.specs.Limits
pub use Rattle.seq_base.specs.Spelling
pub use Rattle.wire_write.specs.Digests
pub mod Chains
pub mod Entries
pub mod FaultWords
pub mod Store
