pub use Rattle.seq_base.specs.Tx
pub mod Order
pub mod Text
