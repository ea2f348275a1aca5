pub mod Climbs
pub mod Cut
pub mod Joins
mod Leaves
pub mod Lengths
pub mod Nodes
pub mod Rises
pub mod Signed
pub mod KeyLaws
