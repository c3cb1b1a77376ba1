pub mod Stop
pub mod Outcome
pub mod Work
pub mod Happens
pub mod Promises
