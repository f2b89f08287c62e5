pub mod NumberText
pub mod Numerator
pub mod Version
pub mod VersionOrder
