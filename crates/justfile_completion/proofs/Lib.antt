pub mod Begun
pub mod Items
pub mod Keys
pub mod Mapped
pub mod Shown
pub mod Steps
pub mod Told
