-- What is told of files in which names are wrong.
use Rattle.std.specs.Prelude.{◌≡◌, ◌⊎◌, ◌++◌, ℕ, Bool, false, Any, List, [], ◌∷◌, String}
use Rattle.std.specs.Global.{Global}
use Rattle.std.specs.List.{AllZip, flat_map}
use Rattle.justfile_ast.specs.declared.ast.Ast.{Ast}
use Rattle.justfile_canonical.specs.Formatting.{IsFileOf}
use Rattle.justfile_files.specs.Request.{texts}
use Rattle.justfile_files.specs.Sources.{Source}
use Rattle.justfile_files.specs.Visible.{visible_lines}
use Rattle.justfile_problems.specs.declared.facts.Import.{Import}
use Rattle.justfile_problems.specs.declared.facts.LocatedModule.{LocatedModule}
use Rattle.justfile_problems.specs.declared.facts.ModuleFile.{ModuleFile}
use Rattle.justfile_problems.specs.declared.facts.Submodule.{Submodule}
use Rattle.justfile_problem_lines.specs.Links.{paths_at}
use Rattle.justfile_problem_lines.specs.Modules.{TellFilesOf}
use Rattle.justfile_lint.specs.Modules.{AreFactsIn, AreImportsOf, AreSubmodulesOf}
use Rattle.justfile_lint.specs.Names.{may_be_imported}
use Rattle.justfiles.specs.Justfile.{IsRejected}
use Rattle.justfiles.specs.Located.{IsPlaced, path_of}

module _ (has : List ℕ → List (String Global) → Type 0) where
  -- the enabled modules of the file at a path, with the places of their files by what the folders have
  pub record ArePlaced (path : List ℕ) (ast : Ast) (modules : List LocatedModule) : Type 0 where
    pub submodules : List Submodule
    pub are : AreSubmodulesOf ast submodules
    pub placed : AllZip (IsPlaced has path) submodules modules

  -- the paths to which the imports and the modules lead of the file at another path
  pub record NamesPaths (path : List ℕ) (ast : Ast) (paths : List (List ℕ)) : Type 0 where
    pub imports : List Import
    pub are : AreImportsOf ast imports
    pub modules : List LocatedModule
    pub are_placed : ArePlaced path ast modules
    pub lead : paths ≡ flat_map (paths_at path) imports ++ flat_map path_of modules

  -- the text is a justfile that leads to the files at these paths, or there are none
  abbrev pub LeadTo : (path source : List ℕ) → (paths : List (List ℕ)) → Type 0
  LeadTo path source paths = ((ast : Ast) × IsFileOf source ast × NamesPaths path ast paths) ⊎ (paths ≡ [])

  -- what a file says, with its name in messages, its path, its text, and where its modules are
  pub record SaysSo (ast : Ast) (name path source : List ℕ) (f : ModuleFile) : Type 0 where
    pub named : f.name.now ≡ name
    pub at : f.path.now ≡ path
    pub text : f.source.now ≡ source
    pub facts : AreFactsIn ast f.facts
    pub imports : AreImportsOf ast f.imports.items
    pub modules : ArePlaced path ast f.modules.items

  -- the text of the file is a justfile, which says this
  pub record IsPart (s : Source) (f : ModuleFile) : Type 0 where
    pub ast : Ast
    pub parsed : IsFileOf s.text ast
    pub says : SaysSo ast s.name s.path s.text f

-- whether another file may import the first one
abbrev pub may_first_be_imported : List Source → Bool
may_first_be_imported [] = false
may_first_be_imported (s ∷ others) = may_be_imported s.name

-- one of the texts isn't a justfile, and the lines tell that
abbrev pub AreRejected : List Source → (lines : List ℕ) → Type 0
AreRejected files lines = Any (λ (s : Source). IsRejected s.name s.text lines) files

module _ (has : List ℕ → List (String Global) → Type 0) where
  -- The texts are justfiles, and the lines tell all that is wrong with the first file and those that it leads to.
  pub record TellFiles (files : List Source) (missing : List (String Global)) (lines : List ℕ) : Type 0 where
    pub parts : List ModuleFile
    pub each : AllZip (IsPart has) files parts
    pub told : TellFilesOf (may_first_be_imported files) parts missing lines

  -- the lines tell all that is wrong, as they are shown
  pub record FindsShown (files : List Source) (missing : List (List ℕ)) (lines : List ℕ) : Type 0 where
    pub paths : List (String Global)
    pub are : missing ≡ texts paths
    pub told : List ℕ
    pub finds : TellFiles files paths told
    pub is : lines ≡ visible_lines told
