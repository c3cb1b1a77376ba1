pub mod GivenLemmas
mod LineLemmas
pub mod ReadingLemmas
pub mod RowLemmas
pub mod SameLemmas
pub mod TextLemmas
pub mod ValueLemmas
