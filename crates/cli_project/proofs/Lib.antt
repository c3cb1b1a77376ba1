pub mod Common
mod InputLemmas
pub mod ProjectLemmas
