pub mod GrownJournals
pub mod JournalCuts
pub mod Lists
pub mod NextRound
pub mod Places
pub mod ReplicaSums
