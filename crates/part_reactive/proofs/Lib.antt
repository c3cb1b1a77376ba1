pub mod StillLemmas
pub mod KeepLemmas
