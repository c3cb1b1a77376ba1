mod BitLemmas
mod BodyLemmas
pub mod HeadLemmas
mod HearLemmas
mod RisingLemmas
mod WroteLemmas
