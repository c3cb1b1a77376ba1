pub mod Waiting
pub mod Legs
pub mod Says
pub mod Answers
