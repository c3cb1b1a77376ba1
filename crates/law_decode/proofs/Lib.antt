mod HeadLemmas
mod LineLemmas
mod ValueLemmas
mod RowLemmas
pub mod LevelsLaw
