pub mod Named
pub mod NetLevels
