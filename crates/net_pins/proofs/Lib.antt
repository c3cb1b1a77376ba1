pub mod BoundLemmas
pub mod FillLemmas
pub mod NumberLemmas
