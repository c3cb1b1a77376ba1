pub mod TypeLemmas
