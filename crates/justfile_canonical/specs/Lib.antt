pub mod Fault
pub mod Formatting
pub mod Messages
pub mod Parsing
pub mod Parts
pub mod Reading
pub mod Root
