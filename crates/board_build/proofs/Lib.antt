pub mod CountLemmas
pub mod EachLemmas
pub mod IdLemmas
pub mod PinLemmas
pub mod PlanLemmas
pub mod WireLemmas
