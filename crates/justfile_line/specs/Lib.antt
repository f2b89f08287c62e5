pub mod Body
pub mod Copies
pub mod Equal
pub mod Expressions
pub mod Line
pub mod Resolved
pub mod Sigil
