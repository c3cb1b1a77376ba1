pub mod Same
pub mod Gate
pub mod Shift595
