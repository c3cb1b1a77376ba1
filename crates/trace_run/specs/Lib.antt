pub mod Rows
pub mod PlayerAt
