pub mod Modes
pub mod Count
pub mod Counted
pub mod Timing
pub mod Outputs
pub mod Flags
