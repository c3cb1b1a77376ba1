pub mod Common
mod SharedLemmas
mod WithLemmas
mod ChipLemmas
mod ContactLemmas
mod PlanLemmas
mod TwinLemmas
pub mod AnswerLemmas
