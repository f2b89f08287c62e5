pub mod PartTable
pub mod Parts
pub mod BodyTable
pub mod BodyTrees
