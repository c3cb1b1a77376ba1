pub mod Answer
pub mod Bare
