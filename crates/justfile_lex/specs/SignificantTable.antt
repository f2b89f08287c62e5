-- The significant tokens of a text.
use Rattle.std.specs.Prelude.{◌≡◌, ℕ, List, map, not}
use Rattle.std.specs.List.{All, filter}
use Rattle.justfile_token.specs.declared.token.Token.{Token}
use Rattle.justfile_model.specs.Lexing.Lexed.{Lexed}
use Rattle.justfile_model.specs.Lexing.LexResult.{IsFrom}
use Rattle.justfile_model.specs.Lexing.SignificantTokens.{TableToken, is_whitespace, significant_of, significant_tokens}
use Rattle.justfile_model.specs.Lexing.Tok.{tok_of}

-- The table has the tokens that aren't whitespace, each with whether it is glued to the one before.
pub record AreSignificant (tokens : List Token) (table : List TableToken) : Type 0 where
  pub marked : map significant_of table ≡ significant_tokens (map tok_of tokens)
  pub kept : map (λ table_token. table_token.0) table ≡ filter (λ t. not (is_whitespace t.kind)) tokens

-- the table is that of the text
pub record IsTableOf (path src : List ℕ) (table : List TableToken) : Type 0 where
  pub tokens : List Token
  pub lexed : Lexed src (map tok_of tokens)
  pub sources : All (IsFrom path src) tokens
  pub significant : AreSignificant tokens table
