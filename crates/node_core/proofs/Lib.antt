pub mod Above
pub mod Acceptance
pub mod Ballots
pub mod Effects
