pub mod Common
mod PlayLemmas
pub mod LoadLemmas
