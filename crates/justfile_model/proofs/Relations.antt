-- The readers are natural: related tokens give related results.
pub mod AlikeAttributeRules
pub mod AlikeAttributes
pub mod AlikeConstructRules
pub mod AlikeMeanings
pub mod AlikeRecipes
pub mod AlikeRules
pub mod Graph
pub mod MakesAlike
pub mod Natural
pub mod NaturalAttributes
pub mod NaturalExpressions
pub mod NaturalHeaders
pub mod NaturalParts
pub mod NewAttributesAlike
pub mod OverRules
pub mod Projected
pub mod Related
