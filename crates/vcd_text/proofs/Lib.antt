pub mod CallerLemmas
mod ChainLemmas
mod HeadLemmas
mod LineLemmas
mod PinLemmas
pub mod ReadingLemmas
pub mod TrackLemmas
mod WaveLemmas
mod WriterLemmas
mod WrittenLemmas
