pub mod Integer
pub mod Numeric
pub mod Mem
pub mod Traps
