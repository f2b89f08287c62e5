pub mod Errors
pub mod Items
pub mod Parts
pub mod Seen
pub mod Surveys
