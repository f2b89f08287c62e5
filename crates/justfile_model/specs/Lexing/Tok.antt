-- Tokens without their path and source.
use Rattle.std.specs.Prelude.{ℕ, List}
use Rattle.justfile_vocabulary.specs.declared.token_kind.TokenKind.{TokenKind}
use Rattle.justfile_token.specs.declared.token.Token.{Token}
use Rattle.justfile_token.specs.Slice.{slice_of}

-- a token: its kind, its bytes, and the position where it begins
pub record Tok : Type 0 where
  pub kind : TokenKind
  pub lexeme : List ℕ
  pub offset : ℕ
  pub line : ℕ
  pub column : ℕ

-- the token with this kind, these bytes and this position
abbrev pub tok : TokenKind → List ℕ → (offset line column : ℕ) → Tok
tok kind lexeme offset line column = record { kind = kind; lexeme = lexeme; offset = offset; line = line; column = column }

-- a token of the code as a token of the definitions
abbrev pub tok_of : Token → Tok
tok_of t = record { kind = t.kind; lexeme = slice_of t.src.now t.offset t.length; offset = t.offset; line = t.line; column = t.column }
