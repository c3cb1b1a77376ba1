pub mod Documents
pub mod Outcomes
