pub mod World
pub mod Open
pub mod Kept
pub mod Acting
pub mod Step
pub mod Play
pub mod Over
pub mod FaultWords
