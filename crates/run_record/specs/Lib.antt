pub mod Done
pub mod Honest
