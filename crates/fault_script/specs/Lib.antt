pub mod Deeds
pub mod Links
pub mod Passing
pub mod Sealing
pub mod Twists
