pub mod EngineLemmas
pub mod FirstLemmas
pub mod PlaceLemmas
