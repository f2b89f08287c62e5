pub mod Lint
pub mod Modules
pub mod Names
