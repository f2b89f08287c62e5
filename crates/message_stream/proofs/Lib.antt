pub mod Fields
pub mod Headers
