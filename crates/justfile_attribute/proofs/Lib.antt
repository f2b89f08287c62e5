mod ArgumentTree
pub mod Boxed
pub mod ByValue
pub mod Cached
pub mod Counted
mod Equalities
mod LeafTexts
pub mod Ordered
pub mod Printed
pub mod ResolvedKeys
pub mod Shown
pub mod Walk
