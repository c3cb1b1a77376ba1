pub mod Typing
pub mod Checking
pub mod Contexts
pub mod Leaves
pub mod Views
