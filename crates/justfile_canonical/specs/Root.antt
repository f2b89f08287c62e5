-- Root files, and the conditions under which they are parsed.
use Rattle.std.specs.Prelude.{◌≡◌, ℕ, List, [], Some, Ok, string_bytes}
use Rattle.justfile_numbers.specs.Numerator.{bindings_of, recipes_of}
use Rattle.justfile_numbers.specs.declared.numerator.Numerator.{Numerator}
use Rattle.justfile_token.specs.Modulepath.{names_of}
use Rattle.justfile_token.specs.declared.fault.Fault.{Fault}
use Rattle.justfile_model.specs.Grammars.Conditions.{Conditions}
use Rattle.justfile_model.specs.LiteralTexts.Literals.{Expansions}
use Rattle.justfile_ast.specs.declared.ast.Ast.{Ast}
use Rattle.justfile_parse.specs.Parsing.{HasNoTree, IsParsedText}

-- the expander that leaves each text unchanged
abbrev pub unchanged : Expansions
unchanged text = Some (Ok text)

-- the limit of depth, that expander, and the version of the language
abbrev pub conditions : Conditions
conditions = record { limit = 256; expander = unchanged; current = record { major = 1; minor = 58; patch = 0 } }

-- The file is that of the text, read as the root file at this path, with numbers counted from `old` to `new`.
pub record IsRootFrom (old new : Numerator) (path source : List ℕ) (ast : Ast) : Type 0 where
  pub parsed : IsParsedText conditions path source 0 [] old new ast
  pub module_path : names_of ast.module_path ≡ []
  pub working_directory : string_bytes ast.working_directory ≡ []

-- Numbers are counted from 0 on.
pub record IsFromZero (old : Numerator) : Type 0 where
  pub no_binding : bindings_of old ≡ 0
  pub no_recipe : recipes_of old ≡ 0

-- The file is that of the text, read as the root file at this path, with numbers from 0 on.
pub record IsRoot (path source : List ℕ) (ast : Ast) : Type 0 where
  pub old : Numerator
  pub new : Numerator
  pub from_zero : IsFromZero old
  pub from : IsRootFrom old new path source ast

-- The fault is why the text has no tree as the root file at this path, with numbers from 0 on.
pub record HasNoRoot (path source : List ℕ) (fault : Fault) : Type 0 where
  pub old : Numerator
  pub new : Numerator
  pub from_zero : IsFromZero old
  pub no_tree : HasNoTree conditions path source old new fault
