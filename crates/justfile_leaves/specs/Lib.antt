pub mod LeafContent
pub mod OtherBranch
pub mod Texts
