pub mod WriteLemmas
pub mod ReadLemmas
pub mod EndLemmas
pub mod PromiseLemmas
pub mod JudgeLemmas
