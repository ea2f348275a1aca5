pub mod Journals
pub mod Acts
pub mod Submissions
pub mod Moments
pub mod Ran
pub mod Rounds
pub mod RoundClaims
