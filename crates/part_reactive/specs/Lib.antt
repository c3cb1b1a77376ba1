pub mod Reaction
pub mod Pins
pub mod Either
pub mod ReactiveAt
