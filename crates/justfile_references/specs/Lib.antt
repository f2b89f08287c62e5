pub mod Defaults
pub mod References
