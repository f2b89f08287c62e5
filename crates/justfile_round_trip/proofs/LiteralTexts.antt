-- Literals: where they end, and what is in them.
pub mod FormatParts
pub mod FormatScans
pub mod Inline
pub mod LexedModes
pub mod LiteralModes
pub mod Literals
pub mod PlainLiterals
pub mod Quoted
pub mod RawTexts
