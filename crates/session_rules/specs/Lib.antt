pub mod Cuts
pub mod Histories
pub mod Rules
pub mod Arrivals
pub mod Final
