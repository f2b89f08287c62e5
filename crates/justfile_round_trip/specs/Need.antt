-- The depth limit that a text needs.
use Rattle.std.specs.Prelude.{ℕ, List}
use Rattle.std.specs.Str.{IsUtf8}
use Rattle.justfile_model.specs.Grammars.Conditions.{Conditions}
use Rattle.justfile_model.specs.Lexing.Lexed.{Lexed}
use Rattle.justfile_model.specs.Grammars.Need.{IsNeed}
use Rattle.justfile_model.specs.Lexing.SignificantTokens.{significant_tokens}
use Rattle.justfile_model.specs.Lexing.Tok.{Tok}

-- The need of a text is the need of its tokens.
pub record TextNeeds (conditions : Conditions) (source : List ℕ) (need : ℕ) : Type 0 where
  pub utf8 : IsUtf8 source
  pub tokens : List Tok
  pub lexed : Lexed source tokens
  pub is_need : IsNeed conditions (significant_tokens tokens) need
