-- The same of the bodies of recipes.
pub mod Bodies
pub mod BodyDerives
pub mod BodyFacts
pub mod BodyFollows
pub mod BodyGood
pub mod BodyLines
pub mod BodyTokens
pub mod Lines
pub mod Trimmed
