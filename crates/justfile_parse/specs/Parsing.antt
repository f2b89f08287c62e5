-- What the public calls promise.
pub use Rattle.justfile_parse_file.specs.Parsing.{CountersMoved, HasNoTree, IsCompileError, IsFilled, IsFilledItem, IsFilledLiteral, IsFilledSetting, IsOneLex, IsParsed, IsParsedText, IsTextRejected, IsTreeless, IsUnparsed, TextWantsNumber}
