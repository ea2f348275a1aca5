pub use Rattle.seq_base.specs.Setting
pub mod Bits
pub mod Sets
