-- The same of the headers of recipes.
pub mod BackHeaders
pub mod CanonHeaders
pub mod GoodHeaders
pub mod LexesHeaders
pub mod WrittenHeaders
