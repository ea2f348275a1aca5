pub mod Records
pub mod Premises
pub mod Headline
pub mod Chains
pub mod Examples
