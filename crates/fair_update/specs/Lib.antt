pub use Rattle.majority_graph.specs.Graph
pub mod Merging
pub mod Ranks
pub mod Updates
pub mod Waiting
