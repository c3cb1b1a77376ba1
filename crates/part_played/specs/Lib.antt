pub mod Played
pub mod Start
