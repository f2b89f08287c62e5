pub mod Groups
pub mod Lines
pub mod Links
pub mod Modules
