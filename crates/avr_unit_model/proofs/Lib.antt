pub mod BitLemmas
pub mod Cases
