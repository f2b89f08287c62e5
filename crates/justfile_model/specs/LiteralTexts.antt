-- The texts of literals: escapes, and the indentation that lines share.
pub mod Cook
pub mod EscapeFault
pub mod FirstPiece
pub mod Literals
pub mod Unindent
