-- The expressions of a set of attributes.
use Rattle.std.specs.Prelude.{List}
use Rattle.std.specs.List.{flat_map}
use Rattle.justfile_attribute.specs.Expressions.{attribute_expressions}
use Rattle.justfile_attribute_set.specs.AttributeSet.{AttributeSet, attributes_of}
use Rattle.justfile_expression.specs.declared.expression.Expression.{Expression}

-- the expressions that the attributes have directly, in order
abbrev pub set_expressions : AttributeSet → List Expression
set_expressions set = flat_map attribute_expressions (attributes_of set)
