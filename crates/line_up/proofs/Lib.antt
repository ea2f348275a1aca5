pub mod Batches
pub mod Edges
pub mod Lines
pub mod Majorities
pub mod Names
