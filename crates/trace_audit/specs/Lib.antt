pub mod Audits
pub mod AuditWords
pub mod Promises
