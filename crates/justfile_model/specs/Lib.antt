pub mod Grammars
pub mod Lexing
pub mod Lists
pub mod LiteralTexts
pub mod Meanings
pub mod Printed
pub mod Readers
pub mod Trees
