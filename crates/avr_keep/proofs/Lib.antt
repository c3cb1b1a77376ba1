pub mod KeepLemmas
pub mod PlacedLemmas
