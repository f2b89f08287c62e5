pub mod DocSteps
pub mod DocumentedLines
pub mod KeptItems
pub mod Loop
pub mod ParsedItems
pub mod TakenDocs
