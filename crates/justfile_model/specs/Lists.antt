-- Lists of any elements: sorted, without duplicates; and recursion on a size.
pub mod Distinct
pub mod Order
pub mod Recursive
