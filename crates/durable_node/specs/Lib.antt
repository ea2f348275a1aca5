pub mod Check
pub mod FaultWords
pub mod Header
pub mod Keeping
pub mod Incarnations
pub mod Log
pub mod Memory
pub mod Node
