pub mod Edited
pub mod Lines
pub mod Pieces
pub mod Replaced
