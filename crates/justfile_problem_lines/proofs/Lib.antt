pub mod More
pub mod Parts
pub mod Paths
pub mod Rests
pub mod Told
