pub mod Beside
pub mod Twins
