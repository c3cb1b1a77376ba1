pub mod Outputs
pub mod Ran
pub mod Run
pub mod Start
pub mod Variables
