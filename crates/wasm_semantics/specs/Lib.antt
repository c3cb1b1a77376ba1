pub mod Eval
pub mod Values
