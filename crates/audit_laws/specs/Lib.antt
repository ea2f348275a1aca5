pub mod Audited
pub mod Examples
