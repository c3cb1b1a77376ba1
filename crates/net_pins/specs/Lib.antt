pub mod Numbering
pub mod Labels
