pub mod FilledLists
