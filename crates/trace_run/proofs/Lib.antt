pub mod RowLemmas
mod CountLemmas
pub mod StateLemmas
