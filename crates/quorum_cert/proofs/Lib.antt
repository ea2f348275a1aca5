pub mod Dropped
pub mod Formed
pub mod Good
pub mod SortedVotes
