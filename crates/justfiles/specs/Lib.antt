pub mod Justfile
pub mod Laws
pub mod Linted
pub mod Located
