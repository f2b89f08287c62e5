pub mod AttributeLines
pub mod InnerExpressions
pub mod ItemTexts
pub mod ShownDocs
