-- What parsing returns, for crates above.
pub use Rattle.justfile_parse.specs.Parsing.{CountersMoved, HasNoTree, IsCompileError, IsFilled, IsFilledItem, IsOneLex, IsParsed, IsParsedText, IsTextRejected, IsTreeless, IsUnparsed, TextWantsNumber}
pub use Rattle.justfile_parse.specs.Parts.{IsPart}
