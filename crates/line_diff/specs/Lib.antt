pub mod Edits
pub mod Hunks
pub mod Label
pub mod Lines
pub mod Unified
