pub mod Arrivals
pub mod FaultWords
