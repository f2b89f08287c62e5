-- Where imports and modules lead.
use Rattle.std.specs.Prelude.{ℕ, Bool, List, [], ◌∷◌, ◌++◌, Option, None, Some, String, cond, string_bytes, unwrap_or}
use Rattle.std.specs.Global.{Global}
use Rattle.std.specs.List.{flat_map, list_any, position}
use Rattle.std.specs.Str.{bytes_eq}
use Rattle.justfile_files.specs.Path.{path_beside}
use Rattle.justfile_problems.specs.declared.facts.Import.{Import}
use Rattle.justfile_problems.specs.declared.facts.Link.{Link}
use Rattle.justfile_problems.specs.declared.facts.Located.{Located}
use Rattle.justfile_problems.specs.declared.facts.Located.TheVariants as places
use Rattle.justfile_problems.specs.declared.facts.LocatedModule.{LocatedModule}
use Rattle.justfile_problems.specs.declared.facts.ModuleFile.{ModuleFile}
use Rattle.justfile_problems.specs.declared.facts.Target.{Target}
use Rattle.justfile_problems.specs.declared.facts.Target.TheVariants as targets

abbrev pub is_at : (path : List ℕ) → ModuleFile → Bool
is_at path f = bytes_eq f.path.now path

abbrev pub is_text : (text : List ℕ) → String Global → Bool
is_text text other = bytes_eq (string_bytes other) text

-- the path to which an import leads of the file at another path, where that is known
abbrev pub paths_at : (path : List ℕ) → Import → List (List ℕ)
paths_at path i = cond i.plain (path_beside path (string_bytes i.path) ∷ []) []

-- what is at a path, if none of the files is: nothing if that is known
abbrev pub without_file : (missing : List (String Global)) → (path : List ℕ) → Target
without_file missing path = cond (list_any (is_text path) missing) targets.Nothing targets.Unknown

abbrev pub file_or : Option ℕ → Target → Target
file_or None target = target
file_or (Some index) target = targets.File index

module _ (files : List ModuleFile) (missing : List (String Global)) where
  -- what is at a path: the first file there, if there is one
  abbrev pub target_at : (path : List ℕ) → Target
  target_at path = file_or (position (is_at path) files) (without_file missing path)

  -- where an import leads of the file at a path
  abbrev pub target_of : (path : List ℕ) → Import → Target
  target_of path i = cond i.plain (target_at (path_beside path (string_bytes i.path))) targets.Unknown

  abbrev pub link_of : (from : ℕ) → (path : List ℕ) → Import → List Link
  link_of from path i = record { from = from; target = target_of path i; optional = i.optional; submodule = None; token = i.token } ∷ []

  -- where the file of a module is
  abbrev pub located : Located → Target
  located (places.At path) = target_at (string_bytes path)
  located places.Nowhere = targets.Nothing
  located places.Unknown = targets.Unknown

  abbrev pub module_link : (from : ℕ) → LocatedModule → List Link
  module_link from m = record { from = from; target = located m.file; optional = m.optional; submodule = Some m.name; token = m.name.token } ∷ []

  -- where the imports and the modules of a file lead that has this index
  abbrev pub links_from : (from : ℕ) → ModuleFile → List Link
  links_from from f = flat_map (link_of from f.path.now) f.imports.items ++ flat_map (module_link from) f.modules.items

  abbrev pub file_links : ModuleFile → List Link
  file_links f = links_from (unwrap_or (position (is_at f.path.now) files) 0) f

  -- where the imports and the modules of all files lead, one file after the other
  abbrev pub all_links : List Link
  all_links = flat_map file_links files
