pub mod Likes
pub mod Lists
