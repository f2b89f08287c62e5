-- The expressions of fragments and lines.
use Rattle.std.specs.Prelude.{List, [], ◌∷◌}
use Rattle.std.specs.List.{flat_map}
use Rattle.justfile_expression.specs.declared.expression.Expression.{Expression}
use Rattle.justfile_line.specs.declared.fragment.Fragment.{Fragment}
use Rattle.justfile_line.specs.declared.fragment.Fragment.TheVariants.{Interpolation, Text}
use Rattle.justfile_line.specs.declared.line.Line.{Line}

-- the expression of an interpolation, as a list
abbrev pub fragment_expressions : Fragment → List Expression
fragment_expressions (Interpolation expression) = expression ∷ []
fragment_expressions (Text token) = []

-- the expressions of the interpolations in a line
abbrev pub line_expressions : Line → List Expression
line_expressions line = flat_map fragment_expressions line.fragments.items
