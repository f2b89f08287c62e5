-- What derives is read, or the error is one that a derivation allows.
pub mod AttributeComplete
pub mod AttributeCovers
pub mod AttributeSteps
pub mod Complete
pub mod ExpressionDeep
pub mod HeaderComplete
pub mod HeaderCovers
pub mod PartComplete
pub mod Reaching
pub mod ReachingRules
