pub mod Omissions
pub mod Kept
pub mod Names
