pub mod Found
pub mod Kept
pub mod Parts
pub mod Places
pub mod Shared
