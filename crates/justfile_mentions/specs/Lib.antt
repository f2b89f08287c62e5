pub mod Arguments
pub mod Mentions
pub mod Names
pub mod Noted
