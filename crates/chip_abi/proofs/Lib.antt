pub mod ReadLemmas
pub mod ImportLemmas
