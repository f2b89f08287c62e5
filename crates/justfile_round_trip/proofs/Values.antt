-- The same of values and of single tokens.
pub mod LexesValues
pub mod TokenFacts
pub mod WrittenValues
