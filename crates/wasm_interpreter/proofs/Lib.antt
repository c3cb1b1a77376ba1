mod Rows
mod Lists
mod Typed
mod Operations
mod Follows
mod Folds
mod Stacks
mod StepLemmas
mod FormLemmas
mod CallLemmas
mod ArgLemmas
mod ByteLemmas
pub mod Typing
pub mod Bridge
