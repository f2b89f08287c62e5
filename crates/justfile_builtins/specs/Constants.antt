-- The built-in constants.
use Rattle.std.specs.Prelude.{ℕ, Bool, List}
use Rattle.std.specs.List.{list_any}
use Rattle.std.specs.Str.{bytes_eq}
use Rattle.justfile_builtins.specs.declared.constants.TheConstants.{CONSTANTS}

-- one of the names in the table is this one
abbrev pub is_constant : List ℕ → Bool
is_constant name = list_any (λ constant. bytes_eq name constant.now) CONSTANTS
