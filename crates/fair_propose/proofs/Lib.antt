pub mod ProposalSteps
pub mod SearchResult
