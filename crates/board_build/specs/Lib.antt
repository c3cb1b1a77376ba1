pub mod Ids
pub mod Inside
pub mod IsPlan
pub mod Parts
pub mod Pins
pub mod Plan
