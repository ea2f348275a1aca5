pub use Rattle.seq_base.specs.Lists
pub use Rattle.majority_graph.specs.Graph
pub use Rattle.fair_laws.specs.Kept
pub mod Backward
