mod IdLemmas
mod RowLemmas
mod WordLemmas
