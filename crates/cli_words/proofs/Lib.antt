mod LexLemmas
mod RuleLemmas
mod WalkLemmas
mod AgreeLemmas
mod ReadLemmas
