pub mod Decimals
pub mod Members
pub mod Options
pub mod Parts
pub mod Points
pub mod Thresholds
