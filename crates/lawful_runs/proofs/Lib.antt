pub mod Dues
pub mod Lawfulness
pub mod NextEvent
mod NodeRuns
mod RoundsLawful
mod RoundsSealCounts
pub mod SealCounts
pub mod Worlds
