mod ByteTable
mod FoundLemmas
mod KeywordTable
pub mod AttributeKindLaws
pub mod IndentationLemmas
pub mod KeywordLaws
pub mod SignalLaws
