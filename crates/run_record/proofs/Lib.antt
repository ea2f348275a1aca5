pub mod Dues
pub mod Honesty
