-- Properties of a parameter.
use Rattle.std.specs.Prelude.{ℕ, Bool, true, false, not, ◌&&◌, ◌||◌, nat_lt, Option, None, Some, is_some, is_none}
use Rattle.justfile_model.specs.declared.parameter_kind.ParameterKind.{ParameterKind}
use Rattle.justfile_model.specs.declared.parameter_kind.ParameterKind.TheVariants.{Plus, Singular, Star}
use Rattle.justfile_recipe_header.specs.declared.parameter.Parameter.{Parameter}

-- it has a long or a short option name
abbrev pub is_option : Parameter → Bool
is_option p = is_some p.long || is_some p.short

abbrev pub is_star : ParameterKind → Bool
is_star Plus = false
is_star Singular = false
is_star Star = true

-- a number is present and above 0
abbrev pub is_positive : Option ℕ → Bool
is_positive None = false
is_positive (Some n) = nat_lt 0 n

-- it has no default, isn't a flag, and either its kind isn't `*` or its `min` is above 0
abbrev pub is_required : Parameter → Bool
is_required p = is_none p.default && (not p.flag && (not (is_star p.kind) || is_positive p.min))
