pub mod Codes
pub mod Findings
pub mod Fixes
pub mod Settings
pub mod Suggestions
