pub mod Draws
pub mod Hss
pub mod Heads
pub mod Lower
pub mod Check
pub mod Any
pub mod Kits
