pub mod Joined
pub mod Named
pub mod Parts
pub mod Signed
