-- The built-in functions, by name.
use Rattle.std.specs.Prelude.{ℕ, List, Option, map, option_map}
use Rattle.std.specs.List.{find}
use Rattle.std.specs.Str.{bytes_eq}
use Rattle.justfile_builtins.specs.declared.functions.Arguments.{Arguments}
use Rattle.justfile_builtins.specs.declared.functions.TheConstants.{FUNCTIONS}

-- the numbers of arguments that the first of these functions with this name takes
abbrev pub arguments_among : List ℕ → List (List ℕ × Arguments) → Option Arguments
arguments_among name functions = option_map (λ f. f.1) (find (λ f. bytes_eq name f.0) functions)

-- the numbers of arguments that the function with this name takes, if there is one
unfoldable pub arguments_of : List ℕ → Option Arguments
arguments_of name = arguments_among name (map (λ f. (f.0.now, f.1)) FUNCTIONS)
