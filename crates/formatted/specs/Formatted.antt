-- The formatted text of a justfile.
use Rattle.std.specs.Prelude.{◌≡◌, ℕ, List}
use Rattle.justfile_syntax.specs.Derivations.{Noted, TextDerives}
use Rattle.justfile_syntax.specs.Files.{Ast, tree_of}
use Rattle.justfile_syntax.specs.Formatting.{IsIndentedBy}
use Rattle.justfile_syntax.specs.Printing.{printed}
use Rattle.justfile_syntax.specs.Roots.{conditions}
use Rattle.justfile_syntax.specs.Tokens.{Tok}
use Rattle.justfile_syntax.specs.Trees.{Tree, indentation_of, shape_of}

-- The formatted text is the printed text, at this indentation, of the tree that the source derives.
pub record IsFormattedAt (source indentation formatted : List ℕ) : Type 0 where
  pub tree : Tree
  pub features : List (Noted Tok)
  pub derives : TextDerives conditions source tree features
  pub is : formatted ≡ printed (shape_of tree) indentation

-- The formatted text is the printed text of the tree that the source derives, at the indentation that the tree sets.
pub record IsFormattedAsSet (source formatted : List ℕ) : Type 0 where
  pub tree : Tree
  pub features : List (Noted Tok)
  pub derives : TextDerives conditions source tree features
  pub indentation : List ℕ
  pub is_set : IsIndentedBy (indentation_of tree) indentation
  pub is : formatted ≡ printed (shape_of tree) indentation

-- The same for a file.
pub record IsPrintedAsSet (ast : Ast) (formatted : List ℕ) : Type 0 where
  pub indentation : List ℕ
  pub is_set : IsIndentedBy (indentation_of (tree_of ast)) indentation
  pub is : formatted ≡ printed (shape_of (tree_of ast)) indentation
