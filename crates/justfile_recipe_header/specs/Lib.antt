pub mod Copies
pub mod Equal
pub mod Expressions
pub mod Header
pub mod Parameter
pub mod Resolved
