pub mod MarkInvariant
pub mod SearchInvariant
pub mod Trails
