pub mod LineLemmas
pub mod WriteLemmas
mod Worked
