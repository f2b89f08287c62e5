-- What a name is.
use Rattle.std.specs.Prelude.{ℕ, Bool, true, false, IsTrue, List, [], ◌∷◌}
use Rattle.justfile_vocabulary.specs.declared.token_kind.TokenKind.{TokenKind}
use Rattle.justfile_vocabulary.specs.declared.token_kind.TokenKind.TheVariants.{Identifier}
use Rattle.justfile_model.specs.Lexing.Lexed.{Lexed}
use Rattle.justfile_model.specs.Lexing.Tok.{Tok}

abbrev pub is_identifier : TokenKind → Bool
is_identifier Identifier = true
is_identifier other = false

-- whether tokens are an identifier and the end of the text
abbrev pub is_single : List Tok → Bool
is_single [] = false
is_single (end ∷ []) = false
is_single (name ∷ end ∷ []) = is_identifier name.kind
is_single (first ∷ second ∷ third ∷ others) = false

-- the text is a single identifier
pub record IsName (text : List ℕ) : Type 0 where
  pub tokens : List Tok
  pub lexed : Lexed text tokens
  pub single : IsTrue (is_single tokens)
