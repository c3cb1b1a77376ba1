pub mod LegLemmas
