pub mod Exact
pub mod Beginnings
pub mod OperandLemmas
pub mod BodyLemmas
