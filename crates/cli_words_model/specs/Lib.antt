pub mod Words
pub mod Request
