pub mod Bytes
pub mod Key
pub mod Growing
pub mod Tree
pub mod Fits
pub mod Draws
pub mod Check
