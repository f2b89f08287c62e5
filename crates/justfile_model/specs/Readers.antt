-- Functions that read tokens from left to right, up to the first error. The grammar is the definition; laws state that they agree with it.
pub mod AttributeReader
pub mod ExpressionReader
pub mod HeaderReader
pub mod NewAttribute
pub mod PartReader
pub mod ReadErrors
pub mod Reader
pub mod ReaderState
pub mod TreeReader
