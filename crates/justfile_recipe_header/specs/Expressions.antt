-- The expressions of parameters and dependencies.
use Rattle.std.specs.Prelude.{List, [], ◌∷◌, option_to_list}
use Rattle.std.specs.List.{flat_map}
use Rattle.justfile_expression.specs.declared.expression.Expression.{Expression}
use Rattle.justfile_recipe_header.specs.declared.parameter.Parameter.{Parameter}
use Rattle.justfile_recipe_header.specs.declared.unresolved_dependency.DependencyArgument.{DependencyArgument}
use Rattle.justfile_recipe_header.specs.declared.unresolved_dependency.UnresolvedDependency.{UnresolvedDependency}

-- the default of a parameter; its `value` is that of an attribute
abbrev pub parameter_expressions : Parameter → List Expression
parameter_expressions p = option_to_list p.default

abbrev pub argument_expressions : DependencyArgument → List Expression
argument_expressions a = a.expression ∷ []

-- the arguments of a dependency
abbrev pub dependency_expressions : UnresolvedDependency → List Expression
dependency_expressions d = flat_map argument_expressions d.arguments.items
