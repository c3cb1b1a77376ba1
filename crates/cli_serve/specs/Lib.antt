pub mod Answer
pub mod AtLaws
pub mod Conversed
pub mod Replies
