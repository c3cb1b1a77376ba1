pub mod Walks
pub mod Nets
pub mod Pairs
pub mod Resolve
pub mod Board
pub mod Rows
pub mod Fits
pub mod Fresh
