pub mod Counts
pub mod KeyLemmas
pub mod KeyTexts
pub mod Loops
pub mod Quoted
pub mod Refused
pub mod StepLaws
