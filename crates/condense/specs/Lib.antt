pub use Rattle.majority_graph.specs.Graph
pub use Rattle.majority_graph.specs.Walks
pub use Rattle.batch_laws.specs.Batches
pub mod Groups
pub mod Moves
pub mod Places
pub mod Stacks
pub mod Steps
