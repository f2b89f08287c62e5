pub mod Refusals
pub mod Told
