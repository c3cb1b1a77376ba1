mod EachLemmas
mod PlanLemmas
mod ReadLemmas
pub mod WorldsLaw
