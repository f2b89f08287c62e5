pub mod Firsts
pub mod Known
pub mod Lasts
pub mod Overrides
pub mod Rings
