-- The canonical text of a justfile.
use Rattle.std.specs.Prelude.{◌≡◌, ◌⊎◌, ℕ, true, false, List}
use Rattle.std.specs.Str.{IsUtf8}
use Rattle.justfile_numbers.specs.declared.numerator.Numerator.{Numerator}
use Rattle.justfile_token.specs.declared.compile_error.CompileError.{CompileError}
use Rattle.justfile_model.specs.Lexing.LexResult.{IsFrom, IsLexicalError}
use Rattle.justfile_model.specs.Grammars.Conditions.{with_limit}
use Rattle.justfile_model.specs.Meanings.Enabled.{indentation_of}
use Rattle.justfile_model.specs.Grammars.Features.{Noted}
use Rattle.justfile_model.specs.Grammars.Files.{NumbersSuffice}
use Rattle.justfile_model.specs.Printed.Printing.{printable}
use Rattle.justfile_model.specs.Lexing.Tok.{Tok}
use Rattle.justfile_model.specs.Trees.Tree.{Tree, shape_of}
use Rattle.justfile_ast.specs.Ast.{features_of, tree_of}
use Rattle.justfile_ast.specs.declared.ast.Ast.{Ast}
use Rattle.justfile_round_trip.specs.RoundTrip.{TextDerives, printed}
use Rattle.justfile_parse.specs.Parsing.{IsTextRejected, TextWantsNumber}
use Rattle.justfile_indentation.specs.OwnIndentation.{HasCookedIndentation, IsIndentedBy}
use Rattle.justfile_canonical.specs.Messages.{error_text}
use Rattle.justfile_canonical.specs.Root.{IsFromZero, conditions}

-- The text is a justfile that can be printed, and `canonical` is its canonical text, at its own indentation.
pub record IsFormatted (source canonical : List ℕ) : Type 0 where
  pub tree : Tree
  pub features : List (Noted Tok)
  pub derives : TextDerives conditions source tree features
  pub can_be_printed : printable (shape_of tree) ≡ true
  pub indentation : List ℕ
  pub is_indented : IsIndentedBy (indentation_of tree) indentation
  pub is : canonical ≡ printed (shape_of tree) indentation

-- The bytes are UTF-8, but not a justfile.
pub record IsRejectedText (source : List ℕ) : Type 0 where
  pub utf8 : IsUtf8 source
  pub derives_none : (tree : Tree) (features : List (Noted Tok)) → TextDerives conditions source tree features → ⊥

-- The text isn't a justfile, and the lines tell which error is the cause: a fault of lexing, or the one for which its tokens are refused,
-- at a part of the text. The path is that of the file.
pub record IsRejection (path source lines : List ℕ) : Type 0 where
  pub rejected : IsRejectedText source
  pub error : CompileError
  pub from : IsFrom path source error.token
  pub cause : IsLexicalError path source error ⊎ IsTextRejected conditions source error
  pub is : lines ≡ error_text error

-- The text is a justfile, but a line of a body ends in a carriage return.
pub record IsUnprintable (source : List ℕ) : Type 0 where
  pub tree : Tree
  pub features : List (Noted Tok)
  pub derives : TextDerives conditions source tree features
  pub cannot_be_printed : printable (shape_of tree) ≡ false

-- why bytes that are UTF-8 have no canonical text
pub data HasNone (source : List ℕ) : Type 0 where
  rejected : IsRejectedText source → HasNone source
  unprintable : IsUnprintable source → HasNone source

-- Counting from 0, a number is needed in the text and there is none, and the numbers suffice for no tree that derives under any limit of
-- depth.
pub record LacksNumbers (source : List ℕ) : Type 0 where
  pub old : Numerator
  pub new : Numerator
  pub from_zero : IsFromZero old
  pub wants : TextWantsNumber conditions source old new
  pub never_enough : (limit : ℕ) (tree : Tree) (features : List (Noted Tok)) → TextDerives (with_limit limit conditions) source tree features
      → NumbersSuffice 0 0 tree → ⊥

-- The file is that of the text.
pub record IsFileOf (source : List ℕ) (ast : Ast) : Type 0 where
  pub derives : TextDerives conditions source (tree_of ast) (features_of ast)
  pub indented : HasCookedIndentation ast

-- The file can be printed, and `canonical` is its canonical text.
pub record IsPrinted (ast : Ast) (canonical : List ℕ) : Type 0 where
  pub can_be_printed : printable (shape_of (tree_of ast)) ≡ true
  pub indentation : List ℕ
  pub is_indented : IsIndentedBy (indentation_of (tree_of ast)) indentation
  pub is : canonical ≡ printed (shape_of (tree_of ast)) indentation
