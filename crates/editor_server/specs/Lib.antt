pub mod Answering
pub mod Changed
pub mod Model
pub mod Served
pub mod Steps
