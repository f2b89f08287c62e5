pub mod Copies
pub mod Expressions
pub mod Form
pub mod LeafSetting
pub mod Print
pub mod Resolved
pub mod Setting
pub mod Value
