pub mod Boxes
pub mod Mail
pub mod Passes
