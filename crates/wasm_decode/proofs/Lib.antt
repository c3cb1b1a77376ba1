pub mod InstrLemmas
pub mod ExprLemmas
pub mod ItemLemmas
pub mod LoopLemmas
pub mod PartLemmas
pub mod Judged
pub mod SectionLemmas
pub mod ModuleLemmas
