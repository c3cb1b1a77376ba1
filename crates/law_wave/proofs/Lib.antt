pub mod DigitLemmas
mod LineLemmas
pub mod TextLemmas
pub mod ValueLemmas
pub mod WaveLaw
pub mod RunLaw
