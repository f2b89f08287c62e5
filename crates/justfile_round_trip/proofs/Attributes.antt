-- That attributes are lexed and derived back, and printed again the same.
pub mod BackAttributes
pub mod CanonAttributes
pub mod CountedAttributes
pub mod CountedKeys
pub mod DeterminedAttributes
pub mod GoodAttributes
pub mod LexesAttributes
pub mod MeantAttributes
pub mod WrittenAttributes
