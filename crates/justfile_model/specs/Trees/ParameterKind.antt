-- Kinds of parameters.
use Rattle.std.specs.Prelude.{ℕ, List, Option, Some, None, codes}
use Rattle.justfile_model.specs.declared.parameter_kind.ParameterKind.{ParameterKind}
use Rattle.justfile_model.specs.declared.parameter_kind.ParameterKind.TheVariants.{Plus, Singular, Star}

-- the prefix of a parameter of this kind, if it has one
abbrev pub kind_prefix : ParameterKind → Option (List ℕ)
kind_prefix Plus = Some (codes "+")
kind_prefix Singular = None
kind_prefix Star = Some (codes "*")
