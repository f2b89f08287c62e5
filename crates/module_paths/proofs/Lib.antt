pub mod Firsts
pub mod JustfileLemmas
