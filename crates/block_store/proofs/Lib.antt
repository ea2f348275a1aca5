pub mod Kept
pub mod ParentSteps
pub mod Steps
