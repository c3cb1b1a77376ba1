mod CountLemmas
pub mod PlayLemmas
pub mod RanLemmas
pub mod StageLemmas
pub mod VariableLemmas
