pub mod FuelLemmas
pub mod VariableLemmas
pub mod ReplayLaw
