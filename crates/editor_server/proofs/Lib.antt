pub mod Going
pub mod Handled
pub mod Kept
pub mod Restored
pub mod Unread
