pub use Rattle.majority_graph.specs.Graph
pub use Rattle.batch_laws.specs.Batches
pub use Rattle.batch_laws.specs.Reached
pub mod Causes
pub mod FaultWords
pub mod Filling
