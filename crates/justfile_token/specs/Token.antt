-- Tokens.
use Rattle.std.specs.Prelude.{ℕ, List}
use Rattle.justfile_token.specs.declared.token.Token.{Token}
use Rattle.justfile_token.specs.Slice.{slice_of}

-- the bytes of a token
abbrev pub lexeme_of : Token → List ℕ
lexeme_of token = slice_of token.src.now token.offset token.length
