mod CasesListed
pub mod Compared
mod Conditionals
pub mod ContentTies
mod EmptyTexts
mod Ended
mod Equalities
mod ExpressionCopies
mod ExpressionRows
mod Joined
pub mod ListLoops
mod Loops
mod Nodes
mod OrderSteps
mod PartLemmas
pub mod Resolved
mod ResolvedSteps
mod RightSides
pub mod ResolvedKeys
mod Rows
mod Walk
