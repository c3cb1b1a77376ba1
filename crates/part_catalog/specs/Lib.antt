pub mod Kinds
pub mod Pins
pub mod Attributes
