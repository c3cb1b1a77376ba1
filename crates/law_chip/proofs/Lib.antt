mod CallLemmas
pub mod DriveLaw
