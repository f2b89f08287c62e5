pub mod Items
pub mod Mentions
