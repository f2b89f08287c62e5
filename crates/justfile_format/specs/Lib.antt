pub mod Arguments
pub mod Buffered
pub mod Failure
pub mod Formatting
pub mod Outcome
