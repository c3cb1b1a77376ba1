pub mod WaitLemmas
pub mod SayLemmas
pub mod AnswerLemmas
pub mod StepLemmas
