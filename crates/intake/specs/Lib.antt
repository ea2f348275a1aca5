pub use Rattle.seq_base.specs.Setting
pub use Rattle.seq_base.specs.Tx
pub mod Arriving
pub mod Desk
pub mod Keys
pub mod Naming
pub mod Offered
pub mod Receiving
