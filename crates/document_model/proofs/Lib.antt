pub mod LimitLemmas
pub mod ReadingLemmas
