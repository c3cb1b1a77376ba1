pub mod EmbedLemmas
