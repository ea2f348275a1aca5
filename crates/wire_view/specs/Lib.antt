pub mod FaultWords
pub mod Messages
pub mod Reading
pub mod Slots
pub mod Views
