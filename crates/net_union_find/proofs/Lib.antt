pub mod ForestLemmas
pub mod PairLemmas
pub mod ClassLemmas
