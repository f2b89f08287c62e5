pub mod Constants
pub mod Functions
