pub mod Changes
pub mod Gifts
pub mod Reading
pub mod Rows
pub mod Same
pub mod Timely
