pub mod BinaryLemmas
