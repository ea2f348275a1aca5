pub mod RunClaims
pub mod Honest
pub mod Lawful
pub mod Spent
pub mod Fed
pub mod RoundsSpent
