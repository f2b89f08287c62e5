pub mod AddedAttributes
pub mod ArgumentKeys
pub mod AttributeTable
pub mod Attributes
pub mod Labels
pub mod DerivedAttributeFields
