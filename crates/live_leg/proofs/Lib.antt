pub mod CountLemmas
pub mod GoingLemmas
pub mod GoneLemmas
pub mod LegLemmas
pub mod SaidLemmas
mod SentLemmas
pub mod WroteLemmas
