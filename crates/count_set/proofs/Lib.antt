pub mod Bits
pub mod Counts
pub mod Pairs
pub mod Quorums
