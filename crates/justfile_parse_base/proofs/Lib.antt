pub mod TextSetLemmas
pub mod Fewer
pub mod BindingNumbers
pub mod HeaderErrors
pub mod Paths
pub mod RuleSteps
pub mod Progress
