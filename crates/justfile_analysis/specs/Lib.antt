pub mod Ends
pub mod InText
pub mod Knowledge
pub mod Mentioned
pub mod Parts
pub mod RightParts
pub mod SeenParts
pub mod Shown
