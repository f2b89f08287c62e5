pub mod Shown
pub mod Symbols
