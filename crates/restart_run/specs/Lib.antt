pub mod Counts
pub mod New
pub mod Started
pub mod Logged
pub mod FaultWords
