mod DifferenceLemmas
mod WakesLemmas
mod TurnedLemmas
mod BesideLemmas
mod AbreastLemmas
