-- Equality of parameters and dependencies, by their fields in declared order.
use Rattle.std.specs.Prelude.{Bool, ◌&&◌}
use Rattle.std.specs.Bool.{beq, nat_eq}
use Rattle.std.specs.Cmp.Lexicographic.{pointwise}
use Rattle.std.specs.Option.{option_eq}
use Rattle.std.specs.String.{string_eq}
use Rattle.justfile_numbers.specs.contracts.number.NumberPartialEq.TheImpl as numbers
use Rattle.justfile_model.specs.contracts.parameter_kind.ParameterKindPartialEq.TheImpl as parameter_kinds
use Rattle.justfile_expression.specs.Equal.{expression_eq, name_eq, namepath_eq}
use Rattle.justfile_recipe_header.specs.declared.parameter.Parameter.{Parameter}
use Rattle.justfile_recipe_header.specs.declared.unresolved_dependency.DependencyArgument.{DependencyArgument}
use Rattle.justfile_recipe_header.specs.declared.unresolved_dependency.UnresolvedDependency.{UnresolvedDependency}

abbrev pub parameter_eq : Parameter → Parameter → Bool
parameter_eq p q =
    option_eq expression_eq p.default q.default && (beq p.export q.export && (beq p.flag q.flag && (option_eq string_eq p.help q.help
    && (parameter_kinds.eq-value.it p.kind q.kind && (option_eq string_eq p.long q.long && (option_eq nat_eq p.max q.max
    && (option_eq nat_eq p.min q.min && (beq p.multiple q.multiple && (name_eq p.name q.name && (numbers.eq-value.it p.number q.number
    && (option_eq nat_eq p.short q.short && option_eq expression_eq p.value q.value)))))))))))

abbrev pub argument_eq : DependencyArgument → DependencyArgument → Bool
argument_eq a b = expression_eq a.expression b.expression && beq a.starred b.starred

abbrev pub dependency_eq : UnresolvedDependency → UnresolvedDependency → Bool
dependency_eq d e = pointwise argument_eq d.arguments.items e.arguments.items && namepath_eq d.recipe e.recipe
