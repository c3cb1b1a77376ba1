pub mod Legs
pub mod Said
pub mod SentView
pub mod Talks
