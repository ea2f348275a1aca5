pub use Rattle.majority_graph.specs.Graph
pub use Rattle.majority_graph.specs.Walks
pub mod Batches
pub mod Pairs
pub mod Reached
