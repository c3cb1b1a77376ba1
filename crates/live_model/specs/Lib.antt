pub mod Board
pub mod Standing
pub mod Leg
pub mod Talk
