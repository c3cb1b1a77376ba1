pub mod Answer
pub mod Blocks
pub mod Entries
