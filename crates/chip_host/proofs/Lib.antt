pub mod ArgumentLemmas
mod HostLemmas
mod CallLemmas
mod DueLemmas
mod ChipLemmas
mod SetupLemmas
mod MovedLemmas
mod TurnLemmas
mod ShownLemmas
