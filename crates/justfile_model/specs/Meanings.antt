-- What written attributes mean, and which rules attributes, settings, recipes and files can break.
pub mod ArgumentTexts
pub mod AttributeKinds
pub mod AttributeRules
pub mod ConstructRules
pub mod Enabled
pub mod Meaning
pub mod ReadAttribute
pub mod RecipeRules
pub mod Rules
pub mod SettingRules
pub mod UnstableFeatures
pub mod Versions
