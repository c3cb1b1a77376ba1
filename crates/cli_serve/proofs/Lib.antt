pub mod ReplyLemmas
pub mod TalkLemmas
pub mod LaterLemmas
pub mod ConverseLemmas
pub mod GoingLemmas
pub mod AskLemmas
pub mod ServeLemmas
pub mod HeldLemmas
