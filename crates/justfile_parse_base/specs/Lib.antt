pub mod ParseErrors
pub mod TextSets
pub mod Counting
pub mod SharedTable
pub mod Trees
