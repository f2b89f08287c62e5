-- The file that `just` loads for a module.
use Rattle.std.specs.Prelude.{◌≡◌, ◌++◌, ◌==◌, ℕ, Bool, List, [], ◌∷◌, Option, None, Some, if◌then◌else◌, codes, option_map, slice_index, string_bytes, unwrap_or, String}
use Rattle.std.specs.declared.alloc.Global.{Global}
use Rattle.std.specs.List.{find, list_any}
use Rattle.std.specs.Option.{option_or}
use Rattle.std.specs.Path.{slash}
use Rattle.std.specs.Str.{bytes_eq, str_eq_ignore_ascii_case}

-- a path that is seen from a folder, as the folder's path is seen
abbrev pub joined : (folder path : List ℕ) → List ℕ
joined folder path = if slice_index path 0 == slash then path else folder ++ slash ∷ path

-- a name in a folder is this one; it is this one in any capitalization
abbrev pub is : (wanted : List ℕ) → String Global → Bool
is wanted name = bytes_eq (string_bytes name) wanted

abbrev pub is_like : (wanted : List ℕ) → String Global → Bool
is_like wanted name = str_eq_ignore_ascii_case (string_bytes name) wanted

-- the module's file among the names in its own folder: the first of these three that is there
abbrev pub own_file : (names : List (String Global)) → Option (String Global)
own_file names = option_or (option_or (find (is (codes "mod.just")) names) (find (is_like (codes "justfile")) names)) (find (is_like (codes ".justfile")) names)

-- its path, by that of the folder
abbrev pub path_within : (folder : List ℕ) (names : List (String Global)) → Option (List ℕ)
path_within folder names = option_map (λ (name : String Global). folder ++ slash ∷ string_bytes name) (own_file names)

-- the path of the file of a module without a path: `NAME.just`, or else what is in the folder `NAME`
abbrev pub found_path : (name : List ℕ) (beside inside : List (String Global)) → Option (List ℕ)
found_path name beside inside = if list_any (is (name ++ codes ".just")) beside then Some (name ++ codes ".just") else path_within name inside

-- This is found by the names beside the justfile and those in the folder that has the module's name.
pub record IsFound (has : List ℕ → List (String Global) → Type 0) (folder name : List ℕ) (path : Option (List ℕ)) : Type 0 where
  pub beside : List (String Global)
  pub are_beside : has (joined folder []) beside
  pub inside : List (String Global)
  pub are_inside : has (joined folder name) inside
  pub is_path : path ≡ found_path name beside inside

-- This is the given path, or, if it is a folder's, what is in that folder.
pub record IsGiven (has : List ℕ → List (String Global) → Type 0) (folder given : List ℕ) (path : Option (List ℕ)) : Type 0 where
  pub inside : List (String Global)
  pub are_inside : has (joined folder given) inside
  pub is_path : path ≡ Some (unwrap_or (path_within given inside) given)

-- the path of the file of a module, as it is seen from the folder of its justfile
abbrev pub IsModulePath : (has : List ℕ → List (String Global) → Type 0) (folder name : List ℕ) (given path : Option (List ℕ)) → Type 0
IsModulePath has folder name None path = IsFound has folder name path
IsModulePath has folder name (Some given) path = IsGiven has folder given path
