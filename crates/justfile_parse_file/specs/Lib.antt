pub mod Errors
pub mod ErrorFaults
pub mod MethodResults
pub mod Parsing
pub mod Unstable
pub mod WantsNumber
