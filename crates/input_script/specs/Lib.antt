pub mod Script
pub mod Verdicts
