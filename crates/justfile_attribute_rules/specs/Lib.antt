pub mod ArgumentRules
pub mod Keys
pub mod Made
pub mod RuleErrors
pub mod Steps
