-- What parsing returns.
pub use Rattle.justfile_canonical.specs.Parsing.{CountersMoved, HasNoTree, IsCompileError, IsFilled, IsFilledItem, IsOneLex, IsParsed, IsParsedText, IsTextRejected, IsTreeless, IsUnparsed, TextWantsNumber}
