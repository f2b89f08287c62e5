-- Meanings of attributes and broken rules, under different projections and views, and as they are computed.
pub mod FeaturesMeant
pub mod MeaningParts
pub mod NewArgumentLaws
pub mod NewAttributeLaws
pub mod NewAttributeSteps
pub mod Ordered
pub mod SameKeys
pub mod SameTexts
pub mod SameViewRecipes
pub mod SameViewRules
pub mod SeenShapes
pub mod ShapesMean
