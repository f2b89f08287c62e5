pub mod ArgumentLists
pub mod ArgumentTexts
pub mod AttributeLoops
pub mod AttributeSteps
mod CommentedAttributes
pub mod KeysPut
pub mod KnownLabels
pub mod PlainAttributes
pub mod PutKeys
pub mod RepeatedAttributes
pub mod DerivedFieldsKept
pub mod GroupAttributes
