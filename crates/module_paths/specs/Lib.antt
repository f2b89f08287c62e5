pub mod Justfiles
pub mod Modules
