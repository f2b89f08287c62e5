pub mod Constant
pub mod Memory
