-- Syntax trees, and the keys by which expressions and attributes are ordered.
pub mod ConditionalOperator
pub mod ContentKeys
pub mod ContentLeaf
pub mod ContentLeafLaws
pub mod ExpressionCases
pub mod Key
pub mod KeyLaws
pub mod LeafView
pub mod Operators
pub mod ParameterKind
pub mod Tree
