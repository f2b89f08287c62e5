-- Examples that the checker computes from the definitions.
pub mod AttributeExamples
pub mod DocExamples
pub mod ItemExamples
pub mod LexingExamples
pub mod OrderExamples
pub mod RuleExamples
pub mod Tables
