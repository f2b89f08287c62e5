pub mod Read
pub mod Tables
