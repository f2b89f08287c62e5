-- What texts derive: expressions, attributes, headers, the parts of items, items and files; and what a derivation needs.
pub mod AttributeLines
pub mod Conditions
pub mod Docs
pub mod Expressions
pub mod Features
pub mod Files
pub mod Grammar
pub mod Headers
pub mod ItemParts
pub mod Need
pub mod Settings
