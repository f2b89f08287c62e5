-- The table of significant tokens, and how the definitions see them.
pub use Rattle.justfile_model.specs.Lexing.SignificantTokens.{TableToken, significant_of}
