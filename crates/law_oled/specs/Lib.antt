pub mod Traffic
pub mod Shown
pub mod OledRun
