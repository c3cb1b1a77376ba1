pub mod LiveView
pub mod Follows
pub mod Played
