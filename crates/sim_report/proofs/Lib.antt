mod LineLemmas
mod OmissionLemmas
