mod Concats
pub mod Numbers
mod OneOfAll
pub mod Started
pub mod TagLengths
