pub mod Rules
pub mod Validity
pub mod Answers
