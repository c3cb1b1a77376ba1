pub mod Opcodes
pub mod Code
pub mod TypeText
