-- The readers, one rule at a time: the state after each step, and the counters.
pub mod AttributeReading
pub mod Counters
pub mod Counting
pub mod ExpressionReading
pub mod HeaderReading
pub mod ItemReading
pub mod Meets
pub mod PartReading
pub mod ReadingSteps
pub mod Renumbered
pub mod Steps
pub mod TokenAttributes
pub mod WordsComplete
