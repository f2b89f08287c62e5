pub mod CopiedLists
pub mod PathLemmas
pub mod PutLemmas
mod TokenStart
