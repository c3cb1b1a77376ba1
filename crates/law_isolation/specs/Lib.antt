pub mod ChipRun
pub mod PlayRun
pub mod Worlds
pub mod Isolated
