pub use Rattle.majority_graph.specs.Graph
pub mod Line
pub mod Majorities
pub mod Paths
