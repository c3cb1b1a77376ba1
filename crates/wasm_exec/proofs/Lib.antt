pub mod ProgramLemmas
mod LoadLemmas
pub mod ListLemmas
mod ExistLemmas
mod BodyLemmas
mod NumberLemmas
mod PartLemmas
mod InvokeLemmas
mod SlotLemmas
pub mod ValidLemmas
