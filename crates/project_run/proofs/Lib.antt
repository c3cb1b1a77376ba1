mod CountLemmas
pub mod PlayLemmas
mod ReportLemmas
