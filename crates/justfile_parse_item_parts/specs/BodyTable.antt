-- The reader of the bodies in a table.
use Rattle.std.specs.Prelude.{ℕ, List, [], ◌∷◌, ◌++◌, Ok, Option}
use Rattle.justfile_token.specs.declared.token.Token.{Token}
use Rattle.justfile_model.specs.Readers.Reader as files
use Rattle.justfile_model.specs.Readers.ReaderState.{◌>>=◌}
use Rattle.justfile_model.specs.Trees.Tree as tree
use Rattle.justfile_model.specs.Trees.Tree.{BodyLine, Fragment}
use Rattle.justfile_vocabulary.specs.declared.token_kind.TokenKind.TheVariants as kinds
use Rattle.justfile_expression.specs.LeafTree.{Leaf}
use Rattle.justfile_parse_expression.specs.Significant.{TableToken}
use Rattle.justfile_parse_expression.specs.TableReader.{Read, State, enclosed, expect, leaves}

abbrev pub fragment : State → Read (Fragment Leaf Token)
fragment = files.fragment leaves

-- an expression between `{{` and `}}`
abbrev pub interpolation : State → Read (Fragment Leaf Token)
interpolation s = do
  start ← expect kinds.InterpolationStart s
  e ← enclosed kinds.InterpolationEnd start.1
  Ok (tree.Interpolation e.0, e.1)

-- the fragments so far, and the next one
abbrev pub one_more : List (Fragment Leaf Token) → State → Read (List (Fragment Leaf Token))
one_more before s = do
  f ← fragment s
  Ok (before ++ f.0 ∷ [], f.1)

abbrev pub line_rest : State → Read (List (Fragment Leaf Token))
line_rest = files.line_rest leaves

abbrev pub body_line : State → Read (BodyLine Leaf Token ℕ)
body_line = files.body_line leaves

abbrev pub lines : State → Read (List (BodyLine Leaf Token ℕ))
lines = files.lines leaves

abbrev pub body : State → Read (List (BodyLine Leaf Token ℕ))
body = files.body leaves

-- the comment before a body, if there is one, and the body
abbrev pub CommentedBody : Type 0
CommentedBody = files.CommentedBody leaves

abbrev pub body_after : (comment : Option TableToken) → State → Read CommentedBody
body_after = files.body_after leaves

abbrev pub optional_body : State → Read CommentedBody
optional_body = files.optional_body leaves

-- the line that the next token begins on
abbrev pub line_at : List TableToken → ℕ
line_at = files.line_at leaves
