pub mod Docs
pub mod ParsedItems
pub mod ReadItems
