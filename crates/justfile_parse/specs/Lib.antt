pub mod Parsing
pub mod Parts
