pub mod Machine
pub mod Turns
pub mod Gives
pub mod Fusing
pub mod Loaded
pub mod Calling
