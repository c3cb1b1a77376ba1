pub mod Words
pub mod Rests
pub mod Condition
pub mod Addresses
pub mod Request
pub mod Views
