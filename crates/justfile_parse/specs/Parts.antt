-- What parsing a part of a text returns.
use Rattle.std.specs.Prelude.{◌≡◌, ℕ, List, [], ◌∷◌, ◌++◌, All}
use Rattle.justfile_model.specs.Grammars.Conditions.{Conditions}
use Rattle.justfile_model.specs.Lexing.LexResult.{IsFrom}
use Rattle.justfile_ast.specs.Ast.{features_of, tree_of}
use Rattle.justfile_ast.specs.declared.ast.Ast.{Ast}
use Rattle.justfile_chunks.specs.Parts.{IsRead}
use Rattle.justfile_parse_file.specs.Parsing.{IsFilledItem}

-- What is before the last byte of the text was read up to that byte, and derives the file's tree. Its items have their texts and derived values.
pub record IsPart (conditions : Conditions) (path src : List ℕ) (file_depth : ℕ) (import_offsets : List ℕ) (ast : Ast) : Type 0 where
  pub text : List ℕ
  pub next : ℕ
  pub src_is : src ≡ text ++ (next ∷ [])
  pub read : IsRead conditions text next (tree_of ast) (features_of ast)
  pub given : All (IsFilledItem conditions.expander (IsFrom path src) file_depth import_offsets) ast.items.items
