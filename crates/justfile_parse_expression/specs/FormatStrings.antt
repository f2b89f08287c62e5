-- The delimiters that end format strings.
use Rattle.std.specs.Prelude.{◌≡◌, ℕ, ◌<◌, false, IsTrue, List, ◌∷◌, ◌++◌, length, map}
use Rattle.std.specs.Coded.{Coded-set, coded_bool}
use Rattle.std.specs.List.{list_all}
use Rattle.justfile_token.specs.StringKind.{kind_of}
use Rattle.justfile_vocabulary.specs.declared.format_string_part.FormatStringPart.TheVariants.{End}
use Rattle.justfile_token.specs.declared.string_kind.StringKind.{StringKind}
use Rattle.justfile_vocabulary.specs.declared.token_kind.TokenKind.TheVariants.{FormatStringStart}
use Rattle.justfile_literal.specs.Literal.{is_part}
use Rattle.justfile_model.specs.Grammars.Expressions as grammar
use Rattle.justfile_model.specs.Grammars.Expressions.{AnyDepth, IsKind, Tokens}
use Rattle.justfile_model.specs.Grammars.Features.{Noted}
use Rattle.justfile_model.specs.Lexing.SignificantTokens.{SignificantToken}
use Rattle.justfile_model.specs.Lexing.Tok.{Tok}
use Rattle.justfile_model.specs.Trees.Tree.{Expr, Parts, Last, Continue, itself}
use Rattle.justfile_parse_expression.specs.Literal.{is_sound}
use Rattle.justfile_parse_expression.specs.Significant.{significant_of}
use Rattle.justfile_parse_expression.specs.Significant.{TableToken}
use Rattle.justfile_parse_expression.specs.TableReader.{State}

abbrev pub last_of : Parts Tok Tok → Tok
last_of (Last token) = token
last_of (Continue token e ps) = last_of ps

-- If these tokens derive parts of a format string after an expression, the last part ends with the delimiter of this kind.
unfoldable pub IsEnded : StringKind → ℕ → Tokens → Type 0
IsEnded kind depth tokens = (ps : Parts Tok Tok) (features : List (Noted Tok)) (rest : Tokens) → grammar.FormatParts itself itself AnyDepth depth ps features tokens rest → IsTrue (is_part kind End (last_of ps).lexeme)

-- If these tokens derive an expression and then parts of a format string, the last part ends with the delimiter of this kind.
unfoldable pub IsEndedPastExpression : StringKind → ℕ → Tokens → Type 0
IsEndedPastExpression kind depth tokens = (e : Expr Tok Tok) (features : List (Noted Tok)) (rest : Tokens) → grammar.Expression itself itself AnyDepth false depth e features tokens rest → IsEnded kind depth rest

-- If the tokens that are left derive parts of a format string, the last part ends with the delimiter of this kind.
unfoldable pub IsEndedAt : StringKind → State → Type 0
IsEndedAt kind s = IsEnded kind s.depth (map significant_of s.left)

-- If the tokens that are left derive an expression and then parts of a format string, the last part ends with the delimiter of this kind.
unfoldable pub IsEndedFrom : StringKind → State → Type 0
IsEndedFrom kind s = IsEndedPastExpression kind s.depth (map significant_of s.left)

-- Each format string ends with the delimiter of its start.
unfoldable pub AreEnded : Tokens → Type 0
AreEnded tokens = (before : Tokens) (start : SignificantToken) (following : Tokens) → tokens ≡ before ++ start ∷ following → IsKind FormatStringStart start → (depth : ℕ) → IsEndedPastExpression (kind_of start.tok.lexeme) depth following

-- The table isn't empty, its literals are delimited, and its format strings end with the delimiter of their start.
abbrev pub IsTable : List TableToken → Type 0
IsTable table = (0 < length table) × IsTrue (list_all is_sound table) × AreEnded (map significant_of table)

pub prop_ended : (tokens : Tokens) → IsProp (AreEnded tokens)
unfolding AreEnded IsEndedPastExpression IsEnded
prop_ended tokens = hlevel (Coded-set coded_bool)
