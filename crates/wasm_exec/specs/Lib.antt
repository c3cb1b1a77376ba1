pub mod Programs
pub mod Whole
pub mod Compiled
pub mod Adding
pub mod Instances
pub mod Slots
pub mod Ready
