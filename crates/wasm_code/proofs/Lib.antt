pub mod LimitsLemmas
pub mod TypeLemmas
pub mod Nesting
