pub mod Circular
pub mod Errors
pub mod Names
pub mod Overridden
pub mod Problems
