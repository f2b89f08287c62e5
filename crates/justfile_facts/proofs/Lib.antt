pub mod Allowed
pub mod Bodies
pub mod Imported
pub mod Last
pub mod Nested
pub mod Pairs
