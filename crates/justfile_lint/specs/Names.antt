-- Names of files.
use Rattle.std.specs.Prelude.{◌-◌, ◌||◌, ℕ, Bool, not, List, length, drop, codes}
use Rattle.std.specs.Str.{str_eq_ignore_ascii_case}

-- whether a text ends in this one, in any case of its letters
abbrev pub ends_alike : (text ending : List ℕ) → Bool
ends_alike text ending = str_eq_ignore_ascii_case (drop (length text - length ending) text) ending

-- whether a path is a name, or ends in it after a slash
abbrev pub is_named : (path name ending : List ℕ) → Bool
is_named path name ending = str_eq_ignore_ascii_case path name || ends_alike path ending

-- whether another file may import a file at this path: it isn't one that `just` runs by its name
abbrev pub may_be_imported : (path : List ℕ) → Bool
may_be_imported path =
    not (is_named path (codes "justfile") (codes "/justfile") || (is_named path (codes ".justfile") (codes "/.justfile") || is_named path (codes "mod.just") (codes "/mod.just")))
