pub mod Lines
pub mod Omissions
