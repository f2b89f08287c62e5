-- What a file of a module says.
use Rattle.std.specs.Prelude.{◌≡◌, false, List, map}
use Rattle.std.specs.List.{flat_map}
use Rattle.justfile_problems.specs.declared.facts.Facts.{Facts}
use Rattle.justfile_problems.specs.declared.facts.Import.{Import}
use Rattle.justfile_problems.specs.declared.facts.Submodule.{Submodule}
use Rattle.justfile_ast.specs.declared.ast.Ast.{Ast}
use Rattle.justfile_facts.specs.Facts.{AreFactsOf}
use Rattle.justfile_facts.specs.Imports.{item_imports, shown_import}
use Rattle.justfile_facts.specs.Submodules.{item_submodules, shown_submodule}
use Rattle.justfile_lint.specs.declared.module.FileFacts.{FileFacts}
use Rattle.justfile_lint.specs.declared.module.FileLinks.{FileLinks}

-- what a file says of names that other ones may import
abbrev pub AreFactsIn : Ast → Facts → Type 0
AreFactsIn ast facts = AreFactsOf false ast.items.items ast.list_features.items facts

-- the imports of a file that are enabled
abbrev pub AreImportsOf : Ast → List Import → Type 0
AreImportsOf ast imports = map shown_import imports ≡ flat_map item_imports ast.items.items

-- its modules that are enabled
abbrev pub AreSubmodulesOf : Ast → List Submodule → Type 0
AreSubmodulesOf ast submodules = map shown_submodule submodules ≡ flat_map item_submodules ast.items.items

-- what leads from a file to others
pub record AreLinksOf (ast : Ast) (l : FileLinks) : Type 0 where
  pub imports : AreImportsOf ast l.imports.items
  pub submodules : AreSubmodulesOf ast l.submodules.items

-- what a file says
pub record IsSaidBy (ast : Ast) (f : FileFacts) : Type 0 where
  pub facts : AreFactsIn ast f.facts
  pub imports : AreImportsOf ast f.imports.items
  pub submodules : AreSubmodulesOf ast f.submodules.items
