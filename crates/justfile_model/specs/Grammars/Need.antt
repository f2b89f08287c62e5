-- The depth limit that tokens need.
use Rattle.std.specs.Prelude.{ℕ, ◌≤◌, List}
use Rattle.justfile_model.specs.Grammars.Conditions.{Conditions, with_limit}
use Rattle.justfile_model.specs.Grammars.Features.{Noted}
use Rattle.justfile_model.specs.Grammars.Files.{FileDerives}
use Rattle.justfile_model.specs.Lexing.SignificantTokens.{SignificantToken}
use Rattle.justfile_model.specs.Lexing.Tok.{Tok}
use Rattle.justfile_model.specs.Trees.Tree.{Tree}

-- the tokens derive a tree under this depth limit, with the expander and the version of the conditions
pub record DerivesUnder (conditions : Conditions) (tokens : List SignificantToken) (limit : ℕ) : Type 0 where
  pub tree : Tree
  pub features : List (Noted Tok)
  pub derives : FileDerives (with_limit limit conditions) tokens tree features

-- The need of tokens is the least depth limit under which they derive a tree, with the expander and the version of the conditions. It
-- doesn't depend on the limit of the conditions.
pub record IsNeed (conditions : Conditions) (tokens : List SignificantToken) (need : ℕ) : Type 0 where
  pub derives : DerivesUnder conditions tokens need
  pub least : (limit : ℕ) → DerivesUnder conditions tokens limit → need ≤ limit
