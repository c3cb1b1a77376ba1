pub mod HostNames
pub mod Imports
pub mod Reading
