pub mod FeedLemmas
pub mod LexerLemmas
pub mod PlaceLemmas
pub mod Refusals
pub mod Runs
pub mod TableLemmas
