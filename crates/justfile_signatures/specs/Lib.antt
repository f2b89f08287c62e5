pub mod Known
pub mod Label
pub mod Signatures
