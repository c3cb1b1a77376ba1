pub mod Diagram
pub mod Json
pub mod Project
pub mod Reading
pub mod Toml
