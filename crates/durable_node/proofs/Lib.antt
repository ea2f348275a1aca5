pub mod Ends
mod Frames
mod Grown
pub mod Headers
mod Held
pub mod Lifetimes
pub mod Logs
pub mod Owners
mod Records
mod Scans
mod Txs
