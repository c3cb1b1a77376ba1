mod BitLemmas
mod StepLemmas
pub mod OledLaw
pub mod BoardLaw
mod Worked
