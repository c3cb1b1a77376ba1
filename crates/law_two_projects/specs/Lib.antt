pub mod OtherChips
