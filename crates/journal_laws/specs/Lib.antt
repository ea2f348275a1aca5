pub mod Sealed
pub mod Standing
