mod Apart
pub mod Cuts
mod Distinct
pub mod Documents
pub mod Marked
pub mod Orders
pub mod ReadSteps
pub mod Received
pub mod Seconds
pub mod Settled
mod Spelled
pub mod TxTexts
pub mod Words
