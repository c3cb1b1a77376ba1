pub mod Answer
pub mod Works
