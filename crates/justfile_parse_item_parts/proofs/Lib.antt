pub mod FilePaths
pub mod Followed
pub mod NumberedNames
pub mod PlainValues
pub mod SettingSteps
pub mod Bodies
pub mod Trims
