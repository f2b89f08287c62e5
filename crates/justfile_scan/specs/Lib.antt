pub mod Layouts
pub mod Modes
pub mod RawTexts
pub mod Scanned
pub mod WhiteRun
