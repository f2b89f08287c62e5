-- Tokens, names and literals, and how the definitions see them.
pub use Rattle.justfile_token.specs.Token.{lexeme_of}
pub use Rattle.justfile_token.specs.Name.{name_text}
pub use Rattle.justfile_token.specs.Namepath.{names_in, namepath_text}
pub use Rattle.justfile_token.specs.Modulepath.{module_names, names_of}
pub use Rattle.justfile_token.specs.StringKind.{kind_of}
pub use Rattle.justfile_token.specs.StringLiteral.{IsSameLiteral, literal_text}
pub use Rattle.justfile_model.specs.Lexing.Tok.{Tok, tok, tok_of}
unfoldable pub use Rattle.justfile_model.specs.Lexing.Places.{column_at}
pub use Rattle.justfile_model.specs.Lexing.SignificantTokens.{SignificantToken, significant_tokens}
pub use Rattle.justfile_lex.specs.SignificantTable.{AreSignificant}
pub use Rattle.justfile_token.specs.declared.modulepath.Modulepath.{Modulepath}
pub use Rattle.justfile_token.specs.declared.name.Name.{Name}
pub use Rattle.justfile_token.specs.declared.namepath.Namepath.{Namepath}
pub use Rattle.justfile_token.specs.declared.source.Source.{Source}
pub use Rattle.justfile_token.specs.declared.string_kind.StringKind.{StringKind}
pub use Rattle.justfile_token.specs.declared.string_literal.StringLiteral.{StringLiteral}
pub use Rattle.justfile_token.specs.declared.token.Token.{Token}
