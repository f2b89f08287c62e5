-- Normal shapes, printed attributes and docs, and printed texts.
pub mod Commented
pub mod DocComments
pub mod DocsKept
pub mod DocsText
pub mod IndentedShapes
pub mod Normal
pub mod PlainFiles
pub mod PrintedArg
pub mod PrintedDocs
pub mod PrintedEntries
pub mod PrintedItems
pub mod PrintedKeys
pub mod PrintedLiterals
pub mod PrintedMeanings
pub mod PrintedTexts
pub mod TrimLaws
pub mod UncommentedText
