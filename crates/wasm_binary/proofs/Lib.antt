pub mod Steps
pub mod Numbers
pub mod Runs
pub mod Cuts
pub mod Once
pub mod Exact
pub mod NameLemmas
pub mod Parts
