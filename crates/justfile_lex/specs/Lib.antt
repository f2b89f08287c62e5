pub mod Explained
pub mod Lexing
pub mod SignificantTable
