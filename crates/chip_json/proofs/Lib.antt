pub mod LimitLemmas
mod NameLemmas
pub mod DisplayLemmas
