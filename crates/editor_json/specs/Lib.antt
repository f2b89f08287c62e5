pub mod Integers
pub mod Received
pub mod Requests
pub mod Sent
