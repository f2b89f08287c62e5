-- The same of items and their parts.
pub mod BackContents
pub mod CanonItems
pub mod CanonParts
pub mod CountedItems
pub mod DeterminedItems
pub mod GoodContents
pub mod GoodItems
pub mod LexesParts
pub mod WrittenParts
