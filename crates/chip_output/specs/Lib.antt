pub mod Output
pub mod Files
pub mod Displays
pub mod Calls
