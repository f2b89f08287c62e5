pub mod Ahead
pub mod Columns
pub mod Feeds
pub mod Onward
pub mod Places
pub mod Searches
pub mod Walks
