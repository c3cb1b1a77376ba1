pub mod ChipLemmas
pub mod StayLemmas
mod RestLemmas
mod WorldLemmas
pub mod Isolation
