pub mod KeywordNames
pub mod SettingText
pub mod VersionTexts
