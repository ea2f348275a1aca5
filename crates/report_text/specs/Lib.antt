pub mod LinePrint
pub mod Lines
pub mod OrderPrint
pub mod RecordPrint
pub mod AuditPrint
pub use Rattle.seq_base.specs.Lists
