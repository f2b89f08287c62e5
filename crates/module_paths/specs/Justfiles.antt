-- Which files of a folder are justfiles.
use Rattle.std.specs.Prelude.{ℕ, ◌-◌, List, ◌++◌, ◌||◌, length, drop, map, codes, Bool, if◌then◌else◌}
use Rattle.std.specs.List.{filter}
use Rattle.std.specs.Str.{str_eq_ignore_ascii_case}

-- whether a text ends in this one, in any case of its letters
abbrev pub ends_alike : (text ending : List ℕ) → Bool
ends_alike text ending = str_eq_ignore_ascii_case (drop (length text - length ending) text) ending

-- the path of a name in a folder
abbrev pub path_in : (folder name : List ℕ) → List ℕ
path_in folder name = (if ends_alike folder (codes "/") then folder else folder ++ codes "/") ++ name

-- whether a path in a folder is that of a justfile, `justfile`, `.justfile` or `*.just` in any case, or that of a folder, which can't be read
abbrev pub is_sought : List ℕ → Bool
is_sought path =
    ends_alike path (codes ".just") || ends_alike path (codes "/justfile") || ends_alike path (codes "/.justfile") || ends_alike path (codes "/")

abbrev pub justfiles_in : (folder : List ℕ) → (names : List (List ℕ)) → List (List ℕ)
justfiles_in folder names = filter is_sought (map (path_in folder) names)
