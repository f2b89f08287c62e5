-- The tokens of a text, and why a text has none.
pub use Rattle.justfile_model.specs.Lexing.Lexed.{IsFault, Lexed}
pub use Rattle.justfile_model.specs.Lexing.LexResult.{IsFrom, IsLexerFault, IsLexicalError}
pub use Rattle.justfile_model.specs.Lexing.LexicalFault.{LexicalFault}
