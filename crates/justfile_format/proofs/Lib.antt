pub mod Buffers
pub mod Failures
pub mod Files
pub mod Outcomes
pub mod Texts
pub mod WholeInput
pub mod Written
