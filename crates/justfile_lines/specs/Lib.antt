pub mod Going
pub mod Positions
pub mod Starts
