pub mod Form
pub mod Reads
pub mod Leb
pub mod Lists
pub mod Names
pub mod NameViews
pub mod Proper
