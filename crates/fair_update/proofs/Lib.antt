pub mod AnyGraph
pub mod Given
pub mod GraphTests
pub mod WaitingCounts
