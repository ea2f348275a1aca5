pub mod BatchFairness
pub mod ComputedLists
pub mod CutComponents
pub mod Lateness
pub mod OwedEdges
