mod ConditionLemmas
mod NumberLemmas
mod WordLemmas
