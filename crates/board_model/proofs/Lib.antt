pub mod Worked
pub mod WalkLemmas
pub mod Lists
pub mod Steps
pub mod SameLemmas
pub mod RoomLemmas
