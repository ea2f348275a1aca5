pub mod Exact
pub mod FieldLaws
pub mod Lists
pub mod Parts
pub mod Slots
pub mod Statements
pub mod Steps
pub mod Whole
