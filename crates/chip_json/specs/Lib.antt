pub mod ChipJson
pub mod Texts
pub mod Display
