pub mod Halves
pub mod Seven
pub mod Screen
pub mod Expander
pub mod Lcd
