pub mod FaultWords
pub mod Seals
pub mod Calls
pub mod Tags
pub mod Digest
