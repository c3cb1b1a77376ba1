pub mod Led
pub mod Passive
