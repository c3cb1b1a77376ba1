pub mod Binary
pub mod Sources
