pub mod AnswerLemmas
mod PlanLemmas
mod RunLemmas
