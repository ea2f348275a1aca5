pub mod Charges
pub mod Counts
pub mod Desks
pub mod Entries
pub mod Marks
pub mod Named
pub mod Offers
pub mod Turns
