pub mod Added
pub mod Found
pub mod Kept
pub mod Parsed
