-- What holds for each derivation: its length, its kinds of tokens, and how it moves to other tokens, projections and limits.
pub mod AttributeProgress
pub mod Beginnings
pub mod Carry
pub mod CarryExpressions
pub mod CookedTexts
pub mod Depth
pub mod Expanders
pub mod ExpressionProgress
pub mod HeaderProgress
pub mod Kinded
pub mod KindedFiles
pub mod Leaves
pub mod Needs
pub mod PartProgress
