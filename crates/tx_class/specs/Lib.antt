pub use Rattle.seq_base.specs.Lists
pub use Rattle.seq_base.specs.Setting
pub use Rattle.seq_base.specs.Tx
pub mod Listed
pub mod Sorted
pub mod Tally
