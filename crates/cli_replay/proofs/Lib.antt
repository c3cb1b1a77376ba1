mod OrderLemmas
mod RepeatLemmas
pub mod ReplayLemmas
