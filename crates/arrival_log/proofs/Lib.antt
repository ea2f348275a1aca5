pub mod Submissions
pub mod OneAnswer
