pub mod GoesLemmas
