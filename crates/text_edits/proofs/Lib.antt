pub mod Cut
pub mod Edits
pub mod Steps
