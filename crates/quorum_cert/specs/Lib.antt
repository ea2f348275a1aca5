pub use Rattle.seq_base.specs.Blocks
pub use Rattle.seq_base.specs.Setting
pub use Rattle.seq_base.specs.Spelling
pub mod Boxes
pub mod Certificates
pub mod Quorums
