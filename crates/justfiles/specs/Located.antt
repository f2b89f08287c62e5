-- Where the files of modules are.
use Rattle.std.specs.Prelude.{◌≡◌, ◌==◌, ℕ, Bool, true, false, List, [], ◌∷◌, Option, None, Some, if◌then◌else◌, codes, length, string_bytes, String}
use Rattle.std.specs.Global.{Global}
use Rattle.std.specs.Option.{option_map}
use Rattle.justfile_token.specs.Name.{name_text}
use Rattle.justfile_files.specs.Path.{path_beside}
use Rattle.justfile_problems.specs.declared.facts.Located.{Located}
use Rattle.justfile_problems.specs.declared.facts.Located.TheVariants as places
use Rattle.justfile_problems.specs.declared.facts.LocatedModule.{LocatedModule}
use Rattle.justfile_problems.specs.declared.facts.Submodule.{Submodule}
use Rattle.module_paths.specs.Modules.{IsModulePath}

abbrev pub or_here : (folder : List ℕ) → List ℕ
or_here folder = if length folder == 0 then codes "." else folder

-- the folder in which the file at a path is
abbrev pub folder_of : (path : List ℕ) → List ℕ
folder_of path = or_here (path_beside path (codes "."))

-- whether a file is where this path is seen from the folder of the file at another one
abbrev pub IsAt : (path : List ℕ) → (found : Option (List ℕ)) → Located → Type 0
IsAt path None l = l ≡ places.Nowhere
IsAt path (Some found) l = (at : String Global) × (l ≡ places.At at) × (string_bytes at ≡ path_beside path found)

module _ (has : List ℕ → List (String Global) → Type 0) (path : List ℕ) where
  -- the place of the file that `just` loads for a module of the file at a path, by what the folders have
  pub record IsFound (m : Submodule) (l : Located) : Type 0 where
    pub found : Option (List ℕ)
    pub is_found : IsModulePath has (folder_of path) (name_text m.name) (option_map string_bytes m.path) found
    pub at : IsAt path found l

  -- the same, where that is known
  abbrev pub IsLocatedBy : (plain : Bool) → Submodule → Located → Type 0
  IsLocatedBy true m l = IsFound m l
  IsLocatedBy false m l = l ≡ places.Unknown

  abbrev pub IsLocated : Submodule → Located → Type 0
  IsLocated m l = IsLocatedBy m.plain m l

  -- a module, and where its file is
  pub record IsPlaced (m : Submodule) (l : LocatedModule) : Type 0 where
    pub name : l.name ≡ m.name
    pub optional : l.optional ≡ m.optional
    pub file : IsLocated m l.file

abbrev pub path_at : Located → List (List ℕ)
path_at (places.At path) = string_bytes path ∷ []
path_at places.Nowhere = []
path_at places.Unknown = []

-- the path of the file of a module, where that is known
abbrev pub path_of : LocatedModule → List (List ℕ)
path_of m = path_at m.file
