pub mod BoolLemmas
mod MemLemmas
mod NameLemmas
