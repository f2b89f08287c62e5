-- What is known about the literals and comments among the tokens.
use Rattle.std.specs.Prelude.{◌≡◌, ℕ, Bool, true, IsTrue, List, codes, nat_eq}
use Rattle.std.specs.List.{starts_with}
use Rattle.justfile_token.specs.StringKind.{kind_of}
use Rattle.justfile_token.specs.Token.{lexeme_of}
use Rattle.justfile_vocabulary.specs.declared.format_string_part.FormatStringPart.TheVariants as parts
use Rattle.justfile_vocabulary.specs.declared.token_kind.TokenKind.{TokenKind}
use Rattle.justfile_vocabulary.specs.declared.token_kind.TokenKind.TheVariants as kinds
use Rattle.justfile_literal.specs.Literal.{is_quoted, is_part}
use Rattle.justfile_parse_expression.specs.Significant.{TableToken}

-- a literal is quoted, a part of a format string that another follows has its delimiters, and a comment begins with `#`
abbrev pub is_delimited : TokenKind → List ℕ → Bool
is_delimited kinds.StringToken lexeme = is_quoted lexeme
is_delimited kinds.Backtick lexeme = is_quoted lexeme
is_delimited kinds.FormatStringStart lexeme = is_part (kind_of lexeme) parts.Start lexeme
is_delimited kinds.FormatStringContinue lexeme = is_part (kind_of lexeme) parts.Continue lexeme
is_delimited kinds.Comment lexeme = starts_with nat_eq lexeme (codes "#")
is_delimited _ lexeme = true

abbrev pub is_sound : TableToken → Bool
is_sound table_token = is_delimited table_token.0.kind (lexeme_of table_token.0)

-- The token is of this kind, and delimited if it is a literal or a comment.
abbrev pub IsOf : TokenKind → TableToken → Type 0
IsOf kind table_token = (table_token.0.kind ≡ kind) × IsTrue (is_sound table_token)
