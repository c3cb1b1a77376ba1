pub mod Causes
pub mod Display
pub mod Mem
pub mod Names
pub mod Outside
pub mod Reads
pub mod Rows
pub mod Signal
