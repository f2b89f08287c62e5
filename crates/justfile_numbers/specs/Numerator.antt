-- The numbers of bindings and recipes, and the counters that hand them out.
use Rattle.std.specs.Prelude.{ℕ}
use Rattle.justfile_numbers.specs.declared.number.Number.{Number}
use Rattle.justfile_numbers.specs.declared.numerator.Numerator.{Numerator}

abbrev pub number_of : ℕ → Number
number_of n = record { 0 = n }

-- the number of the next binding
abbrev pub bindings_of : Numerator → ℕ
bindings_of n = n.bindings

-- how many constants there are; their numbers are the ones below this
abbrev pub constants_of : Numerator → ℕ
constants_of n = n.constants

-- the number of the next recipe
abbrev pub recipes_of : Numerator → ℕ
recipes_of n = n.recipes
