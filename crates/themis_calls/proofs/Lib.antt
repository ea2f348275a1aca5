pub mod Asked
pub mod Audits
pub mod CallEnds
mod Due
pub mod Found
pub mod GivenRun
mod MadeWords
pub mod ManyReads
pub mod OneCommand
pub mod PlanAnswers
pub mod ProgressingRuns
pub mod Rounds
pub mod RunAnswers
pub mod TraceText
