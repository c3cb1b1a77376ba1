pub mod Shared
pub mod Line
pub mod Answer
pub mod Chips
pub mod Found
pub mod Pairs
